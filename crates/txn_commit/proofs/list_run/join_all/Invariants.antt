use Rattle.txn_commit.proofs.Common.{◌≡◌, ◌++◌, flat_map, length, into_iter_items, into_iter_len}
use Rattle.txn_commit.proofs.list_run.join_all.Given as goal

-- what the workers so far ran is there, and what the others ran comes behind
abbrev pub invariant-loop-worker : goal.invariant-loop-worker
invariant-loop-worker g l = record {
  left : into_iter_len l.worker-iterator ≡ length (into_iter_items l.worker-iterator);
  all_come : l.done.items ++ flat_map (λ worker. worker.done.items) (into_iter_items l.worker-iterator)
      ≡ flat_map (λ worker. worker.done.items) (into_iter_items l.initial.worker-iterator);
}
