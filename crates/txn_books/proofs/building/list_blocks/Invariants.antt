use Rattle.txn_books.proofs.Common.{ℕ, ◌+◌, ◌-◌, List, length, HasList}
use Rattle.txn_books.proofs.LaidOut.Relaid.{GoesThrough}
use Rattle.txn_books.proofs.building.list_blocks.Given as goal

-- the blocks that were gone through, and then those from the name on, are the list
abbrev pub invariant-loop-name : goal.invariant-loop-name
invariant-loop-name l = (whole : List ℕ) → HasList l.arena l.words (l.arena.heads + l.list) whole → GoesThrough l.arena l.words l.name l.order.items whole

abbrev pub decreases-loop-name : goal.decreases-loop-name
decreases-loop-name l = l.arena.blocks - length l.order.items
