use Rattle.txn_tree_map.proofs.Held.Numbers.{as_many_blocks}
use Rattle.txn_tree_map.proofs.laws.as_many_blocks.Goals as goal

pub returns : goal.returns
returns c = as_many_blocks
