use Rattle.books_model.proofs.Common.{◌≡◌, ◌+◌, sum_by, cash_between}
use Rattle.books_model.proofs.books.Books.cash_between.Given as goal

-- the total so far and the cash of the accounts that are left are the whole
abbrev pub invariant-loop-cash : goal.invariant-loop-cash
invariant-loop-cash l = l.total + sum_by (λ e. e.1) l.cash-iterator ≡ cash_between l.self l.low l.high
