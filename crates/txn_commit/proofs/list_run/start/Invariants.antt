use Rattle.txn_commit.proofs.Common.{◌≡◌, [], All, length}
use Rattle.txn_commit.proofs.list_run.start.Given as goal

-- there are so many workers, who have run nothing
abbrev pub invariant-loop : goal.invariant-loop
invariant-loop g l = record {
  count : length l.started.items ≡ l.counter;
  new : All (λ worker. (worker.lists.now ≡ l.lists) × (worker.workers ≡ l.workers) × (worker.done.items ≡ [])) l.started.items;
}
