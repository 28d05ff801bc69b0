use Rattle.txn_books.proofs.OnBooks.Turning.{turned, of_taking, comes}
use Rattle.txn_books.proofs.OnBooks.Operating.{next_none, next_call}
use Rattle.txn_books.proofs.operations.next.Goals as goal

pub returns-in-None-clause-step : goal.returns-in-None-clause-step
returns-in-None-clause-step g c =
    comes (turned c.in_ok-take_front.ensures.goes_on (of_taking (rw c.in-None.is at c.in_ok-take_front.ensures.taken)))
    (λ books after sized k. next_none books after k.0 k.1)

pub returns-in-Some-clause-step : goal.returns-in-Some-clause-step
returns-in-Some-clause-step g c =
    comes (turned c.in_ok-take_front.ensures.goes_on (of_taking (rw c.in-Some.is at c.in_ok-take_front.ensures.taken)))
    (λ books after sized k. next_call books after c.in-Some.account c.in-Some.shortfall k.0 k.1)
