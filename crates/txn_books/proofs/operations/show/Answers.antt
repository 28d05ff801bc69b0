use Rattle.txn_books.proofs.Common.{arith, nat_tests}
use Rattle.txn_books.proofs.OnBooks.Turning.{looked, answers}
use Rattle.txn_books.proofs.operations.show.Goals as goal

pub returns-in-Some-clause-step : goal.returns-in-Some-clause-step
returns-in-Some-clause-step g c =
    answers (looked c.in_ok-held.ensures.goes_on (rw c.in-Some.is at c.in_ok-held.ensures.told))
    (λ books sized some. grind (arith, nat_tests, some, c.from.ensures))

pub returns-in-None-clause-step : goal.returns-in-None-clause-step
returns-in-None-clause-step g c =
    answers (looked c.in_ok-held.ensures.goes_on (rw c.in-None.is at c.in_ok-held.ensures.told))
    (λ books sized none. grind (arith, nat_tests, none))
