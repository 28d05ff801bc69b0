use Rattle.txn_records.proofs.Whole.{one_map}
use Rattle.txn_records.proofs.laws.one_map.Goals as goal

pub returns : goal.returns
returns c = one_map
