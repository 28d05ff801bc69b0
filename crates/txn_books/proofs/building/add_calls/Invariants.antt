use Rattle.txn_books.proofs.Common.{take, with_positions, IsBuilt}
use Rattle.txn_books.proofs.building.add_calls.Given as goal

-- as many calls are in as were gone over
abbrev pub invariant-loop-index : goal.invariant-loop-index
invariant-loop-index l = IsBuilt l.shape l.words.items (record (with_positions l.books) { calls = take l.index l.books.calls })
