use Rattle.txn_records.proofs.Whole.{free_counted}
use Rattle.txn_records.proofs.laws.free_blocks_counted.Goals as goal

pub returns : goal.returns
returns c = free_counted
