use Rattle.txn_books.proofs.Common.{drop, ClearingBooks, AddsPrices}
use Rattle.txn_books.proofs.read.add_prices.Given as goal

-- the entries that are left make the same books
abbrev pub invariant-loop-key : goal.invariant-loop-key
invariant-loop-key l = (after : ClearingBooks) → AddsPrices l.entries l.initial.books after → AddsPrices (drop l.key-index l.entries) l.books after
