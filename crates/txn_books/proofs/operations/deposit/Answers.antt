use Rattle.txn_books.proofs.Common.{arith, rules, goes_then, goes_as, nat_tests}
use Rattle.txn_books.proofs.OnBooks.Turning.{looked, answers, look_turn, of_change, comes}
use Rattle.txn_books.proofs.operations.deposit.Goals as goal

pub returns-in_default-clause-step : goal.returns-in_default-clause-step
returns-in_default-clause-step g c =
    answers (looked c.in_ok-held.ensures.goes_on (rw c.in_default.is at c.in_ok-held.ensures.told))
    (λ books sized none. grind (arith, nat_tests, none))

pub returns-then-held-amount-gt-GREATEST_CASH-clause-step : goal.returns-then-held-amount-gt-GREATEST_CASH-clause-step
returns-then-held-amount-gt-GREATEST_CASH-clause-step g c =
    answers (looked c.in_ok-held.ensures.goes_on (rw c.in-Some.is at c.in_ok-held.ensures.told))
    (λ books sized some. grind (arith, nat_tests, some, c.if-held-amount-gt-GREATEST_CASH.true))

pub set_balance-requires-clause-held : goal.set_balance-requires-clause-held
set_balance-requires-clause-held g c = rw c.in-Some.is at c.in_ok-held.ensures.held

pub returns : goal.returns
returns g c = record {
  step =
      comes (look_turn c.in_ok-set_balance.ensures.goes_on
      (looked c.in_ok-held.ensures.goes_on (rw c.in-Some.is at c.in_ok-held.ensures.told)) (of_change c.in_ok-set_balance.ensures.changed))
      (λ books after sized k. grind (arith, nat_tests, k.0, k.1, c.if-held-amount-gt-GREATEST_CASH.false));
  stands = c.in_ok-set_balance.ensures.stands;
  goes_on = goes_as (goes_then c.in_ok-held.ensures.goes_on c.in_ok-set_balance.ensures.goes_on) (search rules);
}

pub returns-in_err-set_balance-clause-goes_on : goal.returns-in_err-set_balance-clause-goes_on
returns-in_err-set_balance-clause-goes_on g c = goes_as (goes_then c.in_ok-held.ensures.goes_on c.in_err-set_balance.ensures.goes_on) (search rules)
