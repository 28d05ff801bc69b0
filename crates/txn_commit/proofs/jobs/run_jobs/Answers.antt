use Rattle.txn_commit.proofs.Common.{arith}
use Rattle.txn_commit.proofs.JobCounts.{jobs_of_all}
use Rattle.txn_commit.proofs.jobs.run_jobs.Goals as goal

pub run_in_order-requires-clause-room : goal.run_in_order-requires-clause-room
run_in_order-requires-clause-room g c κs within = omega (arith, jobs_of_all c.args.lists.now)
