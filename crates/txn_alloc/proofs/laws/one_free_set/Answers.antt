use Rattle.txn_alloc.proofs.FreeLists.Lists.{one_set}
use Rattle.txn_alloc.proofs.laws.one_free_set.Goals as goal

pub returns : goal.returns
returns c = one_set
