use Rattle.txn_books.proofs.Common.{arith, nat_tests}
use Rattle.txn_books.proofs.OnBooks.Turning.{turned, of_room, comes}
use Rattle.txn_books.proofs.operations.set_price.Goals as goal

pub returns-then-not-branch-clause-step : goal.returns-then-not-branch-clause-step
returns-then-not-branch-clause-step g c =
    comes (turned c.in_ok-put_price.ensures.goes_on (of_room c.in_ok-put_price.ensures.priced))
    (λ books after sized k. grind (arith, nat_tests, k.0, c.if-not-branch.true))

pub returns-clause-step : goal.returns-clause-step
returns-clause-step g c =
    comes (turned c.in_ok-put_price.ensures.goes_on (of_room c.in_ok-put_price.ensures.priced))
    (λ books after sized k. grind (arith, nat_tests, k.0, k.1, c.if-not-branch.false))
