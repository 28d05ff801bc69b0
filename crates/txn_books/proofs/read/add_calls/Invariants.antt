use Rattle.txn_books.proofs.Common.{◌≡◌, take, ClearingBooks, AddsCalls}
use Rattle.txn_books.proofs.read.add_calls.Given as goal

-- as many calls are added as were gone over
abbrev pub invariant-loop-number : goal.invariant-loop-number
invariant-loop-number l = (after : ClearingBooks) → AddsCalls l.ring l.words l.initial.books after
    → l.books ≡ record l.initial.books { calls = take l.number after.calls }
