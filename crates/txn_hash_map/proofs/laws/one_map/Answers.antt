use Rattle.txn_hash_map.proofs.OneMap.{one_map}
use Rattle.txn_hash_map.proofs.laws.one_map.Goals as goal

pub returns : goal.returns
returns c = one_map
