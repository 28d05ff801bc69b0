use Rattle.txn_books.proofs.Common.{drop, ClearingBooks, AddsAccounts}
use Rattle.txn_books.proofs.read.add_accounts.Given as goal

-- the entries that are left make the same books
abbrev pub invariant-loop-account : goal.invariant-loop-account
invariant-loop-account l = (after : ClearingBooks) → AddsAccounts l.entries l.initial.books after → AddsAccounts (drop l.account-index l.entries) l.books after
