use Rattle.txn_books.proofs.Common.{drop, ClearingBooks, AddsPositions}
use Rattle.txn_books.proofs.read.add_positions.Given as goal

-- the entries that are left make the same books
abbrev pub invariant-loop-key : goal.invariant-loop-key
invariant-loop-key l = (after : ClearingBooks) → AddsPositions l.entries l.initial.books after → AddsPositions (drop l.key-index l.entries) l.books after
