use Rattle.txn_commit.proofs.Common.{◌≡◌, ◌≤◌, ◌<◌, ℕ, slice_get, Some}
use Rattle.txn_commit.proofs.ordered.are_in_turn.Given as goal

-- the places so far are in turn
abbrev pub invariant-loop-place : goal.invariant-loop-place
invariant-loop-place l = record {
  few : l.place ≤ l.count;
  each : (i p : ℕ) → i < l.place → slice_get l.places i ≡ Some p → p ≡ i;
}
