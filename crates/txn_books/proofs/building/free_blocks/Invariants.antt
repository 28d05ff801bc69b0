use Rattle.txn_books.proofs.Common.{Blocks, FreeListsHold}
use Rattle.txn_books.proofs.LaidOut.Relaid.{AreFreeBelow}
use Rattle.txn_books.proofs.building.free_blocks.Given as goal

-- the lists up to here were gone through
abbrev pub invariant-loop-list : goal.invariant-loop-list
invariant-loop-list l = (free : Blocks) → FreeListsHold l.arena l.words free → AreFreeBelow free l.list l.order.items
