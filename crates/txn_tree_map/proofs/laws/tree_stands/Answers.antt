use Rattle.txn_tree_map.proofs.Maps.{tree_stands}
use Rattle.txn_tree_map.proofs.laws.tree_stands.Goals as goal

pub returns : goal.returns
returns c = tree_stands
