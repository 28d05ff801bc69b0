use Rattle.books_model.proofs.Common.{◌≡◌, sym, ap, ◌∙◌, changed_books}
use Rattle.books_model.proofs.Drafts.{quantity-in_range}
use Rattle.books_model.proofs.draft.Draft.quantity.Goals.{In-Some}
use Rattle.std.specs.FinMap as map
use Rattle.books_model.proofs.draft.Draft.quantity.Goals as goal

-- a changed quantity is that of the changed books
is_held : (c : In-Some) → c.in-Some.change.now
    ≡ map.get (changed_books c.self.inside.books.now c.self.inside.changes).positions (c.args.account, c.args.instrument)
is_held c = sym (c.in-Some.ensures.changed c.self.inside.books.now.positions)

pub returns-in-Some-clause-value : goal.returns-in-Some-clause-value
returns-in-Some-clause-value c = is_held c ∙ ap (λ d. map.get d.after.positions (c.args.account, c.args.instrument)) c.self.view_is

pub returns-in-Some-clause-range : goal.returns-in-Some-clause-range
returns-in-Some-clause-range c = quantity-in_range _ c.args.account c.args.instrument c.self.invariant.after _ (is_held c)

pub returns-in-None-clause-value : goal.returns-in-None-clause-value
returns-in-None-clause-value c =
    c.position.ensures
    ∙ sym (c.in-None.ensures.same c.self.inside.books.now.positions)
    ∙ ap (λ d. map.get d.after.positions (c.args.account, c.args.instrument)) c.self.view_is
