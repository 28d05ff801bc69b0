use Rattle.txn_stores.proofs.Journals.{jobs_counted}
use Rattle.txn_stores.proofs.laws.jobs_counted.Goals as goal

pub returns : goal.returns
returns g c = jobs_counted
