use Rattle.worker_pool.proofs.Common.{◌≡◌, length}
use Rattle.worker_pool.proofs.Dealt.{Cutting}
use Rattle.worker_pool.proofs.dealing.row_of.Given as goal

-- the deques before this one have given a part each
abbrev pub invariant-loop-k : goal.invariant-loop-k
invariant-loop-k l = record {
  at : length l.row.items ≡ l.k;
  cut : Cutting l.fn.owners.items l.owners.items l.row.items;
}
