use Rattle.txn_commit.proofs.Common.{List, length, ap, arith}
use Rattle.txn_commit.proofs.JobCounts.{jobs_of_one}
use Rattle.txn_commit.proofs.jobs.JobListsLists.jobs.Goals as goal

pub overflow_cast-result : goal.overflow_cast-result
overflow_cast-result g c =
    let it = c.args.self.now in
    omega (arith, ap (λ (l : List _). length l) c.list.ensures, jobs_of_one it.lists.now c.args.caller c.requires.caller, it.room)
