use Rattle.txn_books.proofs.Common.{rules, arith, goes_then, goes_as, nat_tests}
use Rattle.txn_books.proofs.OnBooks.Turning.{looked, answers, look_turn, of_room, comes}
use Rattle.txn_books.proofs.operations.open.Goals as goal

pub returns-then-is_some-clause-step : goal.returns-then-is_some-clause-step
returns-then-is_some-clause-step g c =
    answers (looked c.in_ok-cash.ensures.goes_on c.in_ok-cash.ensures.told)
    (λ books sized found. grind (arith, nat_tests, found, c.if-is_some.true, c.is_some.ensures))

pub returns-then-not-branch : goal.returns-then-not-branch
returns-then-not-branch g c = record {
  step =
      comes (look_turn c.in_ok-open_account.ensures.goes_on
      (looked c.in_ok-cash.ensures.goes_on c.in_ok-cash.ensures.told) (of_room c.in_ok-open_account.ensures.opened))
      (λ books after sized k. grind (arith, nat_tests, k.0, k.1.0, c.if-is_some.false, c.is_some.ensures, c.if-not-branch.true));
  stands = c.in_ok-open_account.ensures.stands;
  goes_on = goes_as (goes_then c.in_ok-cash.ensures.goes_on c.in_ok-open_account.ensures.goes_on) (search rules);
}

pub returns : goal.returns
returns g c = record {
  step =
      comes (look_turn c.in_ok-open_account.ensures.goes_on
      (looked c.in_ok-cash.ensures.goes_on c.in_ok-cash.ensures.told) (of_room c.in_ok-open_account.ensures.opened))
      (λ books after sized k. grind (arith, nat_tests, k.0, k.1.0, k.1.1, c.if-is_some.false, c.is_some.ensures, c.if-not-branch.false));
  stands = c.in_ok-open_account.ensures.stands;
  goes_on = goes_as (goes_then c.in_ok-cash.ensures.goes_on c.in_ok-open_account.ensures.goes_on) (search rules);
}

pub returns-in_err-open_account-clause-goes_on : goal.returns-in_err-open_account-clause-goes_on
returns-in_err-open_account-clause-goes_on g c = goes_as (goes_then c.in_ok-cash.ensures.goes_on c.in_err-open_account.ensures.goes_on) (search rules)
