use Rattle.order_rebuild.proofs.Common.{◌≡◌, ℕ, ◌<◌, ◌≤◌, slice_get, slice_index, Some, LockUse, IsPast}
use Rattle.order_rebuild.proofs.standing.go_through.Given as goal

abbrev pub invariant-loop-i : goal.invariant-loop-i
invariant-loop-i l = record {
  rises : (k : ℕ) → slice_index l.initial.versions k ≤ slice_index l.versions k;
  found : (j : ℕ) (u : LockUse) → j < l.i → slice_get l.uses j ≡ Some u → slice_index l.initial.versions u.lock ≤ u.version;
  past : (j : ℕ) (u : LockUse) → j < l.i → slice_get l.uses j ≡ Some u → IsPast l.versions u;
}
