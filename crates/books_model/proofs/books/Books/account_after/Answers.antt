use Rattle.books_model.proofs.Common.{nat_lt, sym, ap, ◌∙◌, nat_cmp_total, slice_get}
use Rattle.books_model.proofs.Maps.Keys.{is_lt-nat_cmp}
use Rattle.books_model.proofs.Maps.Above.{first_above, least_number_above, no_number_above}
use Rattle.books_model.proofs.books.Books.account_after.Goals as goal

pub returns-in_err-number-clause-first : goal.returns-in_err-number-clause-first
returns-in_err-number-clause-first c =
    c.from_residual.ensures
    ∙ sym (first_above nat_cmp_total nat_lt is_lt-nat_cmp c.args.account c.self.inside.accounts c.args.self.now.accounts
    (ap (λ b. b.accounts) c.self.view_is) c.range.result c.range.ensures.ordered (c.range.ensures.between tt)
    ∙ ap (λ r. slice_get r 0) c.in_err-number.ensures.steps.0)

pub returns-in_err-number-clause-none : goal.returns-in_err-number-clause-none
returns-in_err-number-clause-none c =
    rw c.from_residual.ensures (no_number_above c.args.account c.self.inside.accounts c.args.self.now.accounts
    (ap (λ b. b.accounts) c.self.view_is) c.range.result (c.range.ensures.in_range tt) c.in_err-number.ensures.steps.0)

pub returns-clause-first : goal.returns-clause-first
returns-clause-first c =
    sym (first_above nat_cmp_total nat_lt is_lt-nat_cmp c.args.account c.self.inside.accounts c.args.self.now.accounts
    (ap (λ b. b.accounts) c.self.view_is) c.range.result c.range.ensures.ordered (c.range.ensures.between tt)
    ∙ ap (λ r. slice_get r 0) c.in_ok-number.ensures.steps)

pub returns-clause-least : goal.returns-clause-least
returns-clause-least c =
    least_number_above c.args.account c.self.inside.accounts c.args.self.now.accounts
    (ap (λ b. b.accounts) c.self.view_is) c.range.result (c.range.ensures.in_range tt) _ _ c.in_ok-number.ensures.steps
