use Rattle.order_rebuild.proofs.Common.{◌≡◌, ℕ, ◌<◌, vec_len, row_at, version_at, left_at}
use Rattle.order_rebuild.proofs.tallied.tallies_of.Given as goal

abbrev pub invariant-loop-k : goal.invariant-loop-k
invariant-loop-k l = record {
  count : vec_len l.tallies ≡ l.k;
  versions : (k : ℕ) → version_at l.tallies.items k ≡ 0;
  readers : (k : ℕ) → k < l.k → left_at l.tallies.items k ≡ row_at l.rows k 0;
}
