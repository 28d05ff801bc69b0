use Rattle.txn_tree_map.proofs.Common.{length}
use Rattle.txn_tree_map.proofs.Inserts.SpineSteps.{IsUp}
use Rattle.txn_tree_map.proofs.spine.go_up.Given as goal

-- the nodes that were passed hang below what is left of the spine
abbrev pub invariant-loop-block : goal.invariant-loop-block
invariant-loop-block l = IsUp l.map l.key l.words l.blocks.items

abbrev pub decreases-loop-block : goal.decreases-loop-block
decreases-loop-block l = length l.blocks.items
