use Rattle.txn_commit.proofs.Common.{◌≡◌, sym, ◌∙◌, number, AreGoodWords}
use Rattle.std.proofs.Math.Logic.{∥∥₁_elim}
use base.Stored.{Coded-set}
use Rattle.txn_commit.proofs.JobCounts.{entry_of_job, job_there, of_job}
use Rattle.txn_commit.proofs.jobs.JobListsLists.run.Goals as goal

pub run_job-requires-clause-job : goal.run_job-requires-clause-job
run_job-requires-clause-job g c =
    let it = c.args.self.now in
    let job = c.index-list-index.result in
    let at = job_there it.lists.now c.args.caller c.args.index c.list.result.now job c.list.ensures c.requires.index c.index-list-index.is in
    ∥∥₁_elim it.shapes (Coded-set g.row.J-Shape.coded _ _)
    (λ all. of_job it.lists.now (λ j. g.J.Job.shape j ≡ it.shape) all c.args.caller c.args.index job c.requires.caller at) ∙ sym c.requires.shape

pub returns-clause-entry : goal.returns-clause-entry
returns-clause-entry g c =
    let it = c.args.self.now in
    let job = c.index-list-index.result in
    let at = job_there it.lists.now c.args.caller c.args.index c.list.result.now job c.list.ensures c.requires.index c.index-list-index.is in
    entry_of_job it.lists.now g.J.Job.means (AreGoodWords g.J.Shape.Shape c.args.desk.now) (number c.args.pass.now.view) _ _ _
    c.args.caller c.args.index job at c.run_job.result c.run_job.ensures.entry
