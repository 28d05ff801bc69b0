use Rattle.txn_books.proofs.Common.{◌+◌, ◌-◌, ◌++◌, List, length, Cell, HasChain, entries_in}
use Rattle.txn_books.proofs.ReadOff.Walked.{Follows}
use Rattle.txn_books.proofs.listing.list_chain.Given as goal

-- what is listed, and then the entries from the name on, are those that were listed and those of the chain
abbrev pub invariant-loop-name : goal.invariant-loop-name
invariant-loop-name l = (cells : List Cell) → HasChain l.arena l.words l.place cells
    → Follows l.arena l.words l.name l.listed.items (l.initial.listed.items ++ entries_in cells)

abbrev pub decreases-loop-name : goal.decreases-loop-name
decreases-loop-name l = length l.initial.listed.items + l.arena.blocks - length l.listed.items
