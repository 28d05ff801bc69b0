use Rattle.txn_tree_map.specs.Trees.{priority_of}
use Rattle.txn_tree_map.proofs.map.priority.Goals as goal

pub returns-clause-value : goal.returns-clause-value
unfolding priority_of
returns-clause-value c = c.spread.ensures
