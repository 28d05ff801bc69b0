use Rattle.books_model.proofs.Common.{◌≡◌, ℕ, ◌<◌, ◌≤◌, None}
use Rattle.std.specs.FinMap as map
use Rattle.books_model.proofs.draft.Draft.holds_any.Given as goal

-- the account has no position in the instruments so far
abbrev pub invariant-loop-instrument : goal.invariant-loop-instrument
invariant-loop-instrument l = (j : ℕ) → 1 ≤ j → j < l.instrument → map.get l.self.after.positions (l.account, j) ≡ None
