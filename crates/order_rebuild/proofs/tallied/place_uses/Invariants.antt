use Rattle.order_rebuild.proofs.Common.{◌≡◌, ℕ, ◌<◌, length, slice_get, Some, take, LockUse, IsStep, row_at, version_at, left_at}
use Rattle.order_rebuild.proofs.tallied.place_uses.Given as goal

abbrev pub invariant-loop-i : goal.invariant-loop-i
invariant-loop-i l = record {
  count : length l.tallies ≡ length l.initial.tallies;
  above : (j : ℕ) (u : LockUse) → j < l.i → slice_get l.uses j ≡ Some u → u.lock < l.from;
  step : IsStep (take l.i l.uses) (row_at l.rows) (version_at l.initial.tallies) (left_at l.initial.tallies)
      (version_at l.tallies) (left_at l.tallies);
}
