use Rattle.txn_commit.proofs.Common.{◌≡◌, ◌+◌, take, count_jobs}
use Rattle.txn_commit.proofs.jobs.have_at_most.Given as goal

-- what is left beside the lists so far
abbrev pub invariant-loop-list : goal.invariant-loop-list
invariant-loop-list g l = l.left + count_jobs (take l.list-index l.lists) ≡ l.most
