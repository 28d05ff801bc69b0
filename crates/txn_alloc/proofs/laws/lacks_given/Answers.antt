use Rattle.txn_alloc.proofs.FreeLists.Traces.{lacks_given}
use Rattle.txn_alloc.proofs.laws.lacks_given.Goals as goal

pub returns : goal.returns
returns c = lacks_given
