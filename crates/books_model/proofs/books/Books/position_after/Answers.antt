use Rattle.books_model.proofs.Common.{ℕ, Option, sym, ap, refl, ◌∙◌, slice_get, is_lt, position_cmp}
use Rattle.std.specs.Option.{option_map}
use Rattle.books_model.proofs.Maps.Trees.{positions_total}
use Rattle.books_model.proofs.Maps.Above.{first_above, least_above, none_above}
use Rattle.books_model.proofs.books.Books.position_after.Goals as goal

-- a key and its quantity, side by side
abbrev flat : (ℕ × ℕ) × ℕ → ℕ × ℕ × ℕ
flat e = (e.0.0, e.0.1, e.1)

abbrev flat_found : Option ((ℕ × ℕ) × ℕ) → Option (ℕ × ℕ × ℕ)
flat_found found = option_map flat found

pub returns-in_err-key-clause-first : goal.returns-in_err-key-clause-first
returns-in_err-key-clause-first c =
    c.from_residual.ensures
    ∙ ap flat_found (sym (first_above positions_total (λ k q. is_lt (position_cmp k q)) (λ _ _. refl) (
      c.args.account,
      c.args.instrument,
    ) c.self.inside.positions c.args.self.now.positions (ap (λ b. b.positions) c.self.view_is)
    c.range.result c.range.ensures.ordered (c.range.ensures.between tt) ∙ ap (λ r. slice_get r 0) c.in_err-key.ensures.steps.0))

pub returns-in_err-key-clause-none : goal.returns-in_err-key-clause-none
returns-in_err-key-clause-none c =
    rw c.from_residual.ensures (none_above positions_total (λ k q. is_lt (position_cmp k q)) (λ _ _. refl)
    (c.args.account, c.args.instrument) c.self.inside.positions c.args.self.now.positions
    (ap (λ b. b.positions) c.self.view_is) c.range.result (c.range.ensures.in_range tt) c.in_err-key.ensures.steps.0)

pub returns-clause-first : goal.returns-clause-first
returns-clause-first c =
    ap flat_found (sym (first_above positions_total (λ k q. is_lt (position_cmp k q)) (λ _ _. refl) (
      c.args.account,
      c.args.instrument,
    ) c.self.inside.positions c.args.self.now.positions (ap (λ b. b.positions) c.self.view_is)
    c.range.result c.range.ensures.ordered (c.range.ensures.between tt) ∙ ap (λ r. slice_get r 0) c.in_ok-key.ensures.steps))

pub returns-clause-least : goal.returns-clause-least
returns-clause-least c =
    least_above positions_total (λ k q. is_lt (position_cmp k q)) (λ _ _. refl) (c.args.account, c.args.instrument)
    c.self.inside.positions c.args.self.now.positions (ap (λ b. b.positions) c.self.view_is) c.range.result
    (c.range.ensures.in_range tt) _ _ c.in_ok-key.ensures.steps
