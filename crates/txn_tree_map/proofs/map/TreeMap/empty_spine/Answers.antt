use Rattle.txn_tree_map.proofs.Inserts.SpineSteps.{spine_empty}
use Rattle.txn_tree_map.proofs.map.TreeMap.empty_spine.Goals as goal

pub returns : goal.returns
returns c key = rw c.new.ensures.items (spine_empty key c.requires.1)
