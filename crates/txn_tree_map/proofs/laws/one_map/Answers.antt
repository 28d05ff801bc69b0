use Rattle.txn_tree_map.proofs.Maps.{one_map}
use Rattle.txn_tree_map.proofs.laws.one_map.Goals as goal

pub returns : goal.returns
returns c = one_map
