use Rattle.txn_books.proofs.Common.{rules, arith, goes_then, goes_as, nat_tests}
use Rattle.txn_books.proofs.OnBooks.Turning.{looked, look_then, answers, look_turn, of_change, comes}
use Rattle.txn_books.proofs.operations.close.Goals as goal

pub returns-in_default-clause-step : goal.returns-in_default-clause-step
returns-in_default-clause-step g c =
    answers (looked c.in_ok-held.ensures.goes_on (rw c.in_default.is at c.in_ok-held.ensures.told))
    (λ books sized none. grind (arith, nat_tests, none))

pub returns-then-held-ne0-clause-step : goal.returns-then-held-ne0-clause-step
returns-then-held-ne0-clause-step g c =
    answers (looked c.in_ok-held.ensures.goes_on (rw c.in-Some.is at c.in_ok-held.ensures.told))
    (λ books sized some. grind (arith, nat_tests, some, c.if-held-ne0.true))

pub returns-then-branch : goal.returns-then-branch
returns-then-branch g c = record {
  step =
      answers (look_then c.in_ok-holds_any.ensures.goes_on
      (looked c.in_ok-held.ensures.goes_on (rw c.in-Some.is at c.in_ok-held.ensures.told)) c.in_ok-holds_any.ensures.told)
      (λ books sized k. grind (arith, nat_tests, k.0, k.1, c.if-held-ne0.false, c.if-branch.true));
  stands = c.in_ok-holds_any.ensures.stands;
  goes_on = goes_as (goes_then c.in_ok-held.ensures.goes_on c.in_ok-holds_any.ensures.goes_on) (search rules);
}

pub returns : goal.returns
returns g c = record {
  step =
      comes (look_turn c.in_ok-remove_account.ensures.goes_on
      (look_then c.in_ok-holds_any.ensures.goes_on
      (looked c.in_ok-held.ensures.goes_on (rw c.in-Some.is at c.in_ok-held.ensures.told))
      c.in_ok-holds_any.ensures.told) (of_change c.in_ok-remove_account.ensures.changed))
      (λ books after sized k. grind (arith, nat_tests, k.0.0, k.0.1, k.1, c.if-held-ne0.false, c.if-branch.false));
  stands = c.in_ok-remove_account.ensures.stands;
  goes_on = goes_as (goes_then (goes_then c.in_ok-held.ensures.goes_on c.in_ok-holds_any.ensures.goes_on)
      c.in_ok-remove_account.ensures.goes_on) (search rules);
}

pub returns-in_err-holds_any-clause-goes_on : goal.returns-in_err-holds_any-clause-goes_on
returns-in_err-holds_any-clause-goes_on g c = goes_as (goes_then c.in_ok-held.ensures.goes_on c.in_err-holds_any.ensures.goes_on) (search rules)

pub returns-in_err-remove_account-clause-goes_on : goal.returns-in_err-remove_account-clause-goes_on
returns-in_err-remove_account-clause-goes_on g c =
    goes_as (goes_then (goes_then c.in_ok-held.ensures.goes_on c.in_ok-holds_any.ensures.goes_on) c.in_err-remove_account.ensures.goes_on) (search rules)
