use Rattle.txn_stores.proofs.Journals.{jobs_are_journal}
use Rattle.txn_stores.proofs.laws.jobs_are_journal.Goals as goal

pub returns : goal.returns
returns g c = jobs_are_journal
