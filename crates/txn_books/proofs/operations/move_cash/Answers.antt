use Rattle.txn_books.proofs.Common.{◌≡◌, Some, arith, rules, goes_then, goes_as, nat_tests}
use Rattle.txn_books.proofs.OnBooks.Accounts.{held_kept, held_told}
use Rattle.txn_books.proofs.OnBooks.Turning.{Looked, unlooked, looked, look_then, answers, look_turn, turn_then, of_change, comes}
use Rattle.txn_books.proofs.operations.move_cash.Goals.{In-Some-2}
use Rattle.std.specs.FinMap as map
use Rattle.txn_books.proofs.operations.move_cash.Goals as goal

pub returns-then-payer-payee-clause-step : goal.returns-then-payer-payee-clause-step
returns-then-payer-payee-clause-step g c =
    answers unlooked (λ books sized none.
    grind (arith, nat_tests, c.if-payer-payee.true))

pub returns-in_default-clause-step : goal.returns-in_default-clause-step
returns-in_default-clause-step g c =
    answers (looked c.in_ok-has.ensures.goes_on (rw c.in_default.is at c.in_ok-has.ensures.told))
    (λ books sized none. grind (arith, nat_tests, none, c.if-payer-payee.false))

pub returns-in_default-2 : goal.returns-in_default-2
returns-in_default-2 g c = record {
  step =
      answers (look_then c.in_ok-gets.ensures.goes_on
      (looked c.in_ok-has.ensures.goes_on (rw c.in-Some.is at c.in_ok-has.ensures.told)) (rw c.in_default-2.is at c.in_ok-gets.ensures.told))
      (λ books sized k. grind (arith, nat_tests, k.0, k.1, c.if-payer-payee.false));
  stands = c.in_ok-gets.ensures.stands;
  goes_on = goes_as (goes_then c.in_ok-has.ensures.goes_on c.in_ok-gets.ensures.goes_on) (search rules);
}

-- what was found of both accounts
found : (g : _) (c : In-Some-2 g) → Looked g.W.Words g.W.Shape.Shape c.args.shape.now c.args.w.now c.balance-2.new.w
    (λ books. (Some c.in-Some.has.value ≡ map.get books.accounts c.args.payer) × (Some c.in-Some-2.gets.value ≡ map.get books.accounts c.args.payee))
found g c = look_then c.in_ok-gets.ensures.goes_on
    (looked c.in_ok-has.ensures.goes_on (rw c.in-Some.is at c.in_ok-has.ensures.told)) (rw c.in-Some-2.is at c.in_ok-gets.ensures.told)

pub returns-then-has-amount : goal.returns-then-has-amount
returns-then-has-amount g c = record {
  step = answers (found g (goal.at.returns-then-has-amount g c).In-Some-2)
      (λ books sized k. grind (arith, nat_tests, k.0, k.1, c.if-payer-payee.false, c.if-has-amount.true));
  stands = c.in_ok-gets.ensures.stands;
  goes_on = goes_as (goes_then c.in_ok-has.ensures.goes_on c.in_ok-gets.ensures.goes_on) (search rules);
}

pub returns-then-gets-amount-gt-GREATEST_CASH : goal.returns-then-gets-amount-gt-GREATEST_CASH
returns-then-gets-amount-gt-GREATEST_CASH g c = record {
  step = answers (found g (goal.at.returns-then-gets-amount-gt-GREATEST_CASH g c).In-Some-2)
      (λ books sized k. grind (arith, nat_tests, k.0, k.1, c.if-payer-payee.false, c.if-has-amount.false, c.if-gets-amount-gt-GREATEST_CASH.true));
  stands = c.in_ok-gets.ensures.stands;
  goes_on = goes_as (goes_then c.in_ok-has.ensures.goes_on c.in_ok-gets.ensures.goes_on) (search rules);
}

pub set_balance-requires-clause-held : goal.set_balance-requires-clause-held
set_balance-requires-clause-held g c =
    let goes = c.in_ok-gets.ensures.goes_on in
    held_told goes c.args.shape.now c.args.payer c.in-Some.has.block
    (rw c.in-Some.is at c.in_ok-has.ensures.held) c.in_ok-gets.ensures.told

pub set_balance-requires-2-clause-held : goal.set_balance-requires-2-clause-held
set_balance-requires-2-clause-held g c =
    let goes = c.in_ok-set_balance.ensures.goes_on in
    held_kept goes c.args.shape.now c.args.payee c.in-Some-2.gets.block
    (rw c.in-Some-2.is at c.in_ok-gets.ensures.held) c.in_ok-set_balance.ensures.blocks

pub returns : goal.returns
returns g c = record {
  step =
      comes (turn_then c.in_ok-set_balance-2.ensures.goes_on
      (look_turn c.in_ok-set_balance.ensures.goes_on (found g (goal.at.returns g c).In-Some-2)
      (of_change c.in_ok-set_balance.ensures.changed)) (of_change c.in_ok-set_balance-2.ensures.changed))
      (λ books after sized k.
      grind (arith, nat_tests, k.1.0.0, k.1.0.1, k.1.1, k.2, c.if-payer-payee.false, c.if-has-amount.false, c.if-gets-amount-gt-GREATEST_CASH.false));
  stands = c.in_ok-set_balance-2.ensures.stands;
  goes_on = goes_as (goes_then (goes_then (goes_then c.in_ok-has.ensures.goes_on c.in_ok-gets.ensures.goes_on)
      c.in_ok-set_balance.ensures.goes_on) c.in_ok-set_balance-2.ensures.goes_on) (search rules);
}

pub returns-in_err-gets-clause-goes_on : goal.returns-in_err-gets-clause-goes_on
returns-in_err-gets-clause-goes_on g c = goes_as (goes_then c.in_ok-has.ensures.goes_on c.in_err-gets.ensures.goes_on) (search rules)

pub returns-in_err-set_balance-clause-goes_on : goal.returns-in_err-set_balance-clause-goes_on
returns-in_err-set_balance-clause-goes_on g c =
    goes_as (goes_then (goes_then c.in_ok-has.ensures.goes_on c.in_ok-gets.ensures.goes_on) c.in_err-set_balance.ensures.goes_on) (search rules)

pub returns-in_err-set_balance-2-clause-goes_on : goal.returns-in_err-set_balance-2-clause-goes_on
returns-in_err-set_balance-2-clause-goes_on g c =
    goes_as (goes_then (goes_then (goes_then c.in_ok-has.ensures.goes_on c.in_ok-gets.ensures.goes_on)
    c.in_ok-set_balance.ensures.goes_on) c.in_err-set_balance-2.ensures.goes_on) (search rules)
