use Rattle.txn_books.proofs.Common.{◌+◌, ◌-◌, ◌*◌, length, [], Tree, entries_in}
use Rattle.txn_tree_map.specs.Trees.{HasTree}
use Rattle.txn_books.proofs.ReadOff.Visited.{Visits, down}
use Rattle.txn_books.proofs.listing.tree_entries.Given as goal

abbrev pub invariant-loop-name : goal.invariant-loop-name
invariant-loop-name l = (root : Tree) → HasTree l.tree.arena l.words l.tree.root root
    → Visits l.tree.arena l.words l.names.items l.listed.items (entries_in (down root []))

-- a name is dropped, or a block more is listed and two names come in the place of one
abbrev pub decreases-loop-name : goal.decreases-loop-name
decreases-loop-name l = 2 * (l.tree.arena.blocks - length l.listed.items) + length l.names.items
