use Rattle.txn_alloc.proofs.FreeLists.Traces.{lacks_taken}
use Rattle.txn_alloc.proofs.laws.lacks_taken.Goals as goal

pub returns : goal.returns
returns c = lacks_taken
