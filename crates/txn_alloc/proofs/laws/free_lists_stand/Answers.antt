use Rattle.txn_alloc.proofs.FreeLists.Lists.{free_kept}
use Rattle.txn_alloc.proofs.laws.free_lists_stand.Goals as goal

pub returns : goal.returns
returns c = free_kept
