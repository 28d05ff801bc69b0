use Rattle.txn_tree_map.proofs.Held.Priorities.{priorities_differ}
use Rattle.txn_tree_map.proofs.laws.priorities_differ.Goals as goal

pub returns : goal.returns
returns c = priorities_differ
