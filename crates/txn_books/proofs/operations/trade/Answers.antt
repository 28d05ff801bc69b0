use Rattle.txn_books.proofs.Common.{inl, inr, ap, ◌∙◌, arith, rules, goes_then, goes_as, Gives, nat_tests}
use Rattle.txn_books.specs.declared.trading.Found.{Found}
use Rattle.txn_books.proofs.OnBooks.Accounts.{held_told}
use Rattle.txn_books.proofs.OnBooks.Turning.{Looked, unlooked, looked, looked_less, look_then, answers, look_turn, comes, each_looked}
use Rattle.txn_books.proofs.OnBooks.TradeSides.{IsMet, found_side, no_side, may_exchange, of_exchange, left_exchanged, trade_quantity, trade_cash, trade_limit}
use Rattle.txn_books.proofs.OnBooks.TradeSides.{trade_full, trade_done}
use Rattle.txn_books.proofs.operations.trade.Goals.{In-Some-3, then-sells-cost-gt-GREATEST_CASH-via-then-sells-cost-gt-GREATEST_CASH}
use Rattle.txn_books.proofs.operations.trade.Goals.{then-sells-cost-gt-GREATEST_CASH-via-else-sells-cost-gt-GREATEST_CASH+then-buys-amount-gt-GREATEST_QUANTITY}
use Rattle.books_model.specs.declared.reply.Value.TheVariants as value
use Rattle.txn_books.proofs.operations.trade.Goals as goal

pub returns-then-buyer-seller-clause-step : goal.returns-then-buyer-seller-clause-step
returns-then-buyer-seller-clause-step g c =
    answers unlooked (λ books sized none.
    grind (arith, nat_tests, c.if-buyer-seller.true))

pub returns-in_default-clause-step : goal.returns-in_default-clause-step
returns-in_default-clause-step g c =
    answers (looked c.in_ok-buys.ensures.goes_on (rw c.in_default.is at c.in_ok-buys.ensures.told))
    (λ books sized none. grind (arith, nat_tests, no_side books c.args.buyer c.args.instrument none, c.if-buyer-seller.false))

pub returns-in_default-2 : goal.returns-in_default-2
returns-in_default-2 g c = record {
  step =
      answers (look_then c.in_ok-sells.ensures.goes_on
      (looked c.in_ok-buys.ensures.goes_on (rw c.in-Some.is at c.in_ok-buys.ensures.told)) (rw c.in_default-2.is at c.in_ok-sells.ensures.told))
      (λ books sized k. grind (
        arith,
        nat_tests,
        (found_side books c.args.buyer c.args.instrument c.in-Some.buys.side k.0).0,
        no_side books c.args.seller c.args.instrument k.1,
        c.if-buyer-seller.false,
      ));
  stands = c.in_ok-sells.ensures.stands;
  goes_on = goes_as (goes_then c.in_ok-buys.ensures.goes_on c.in_ok-sells.ensures.goes_on) (search rules);
}

pub returns-in_default-3 : goal.returns-in_default-3
returns-in_default-3 g c = record {
  step =
      answers (look_then c.in_ok-price.ensures.goes_on
      (look_then c.in_ok-sells.ensures.goes_on
      (looked c.in_ok-buys.ensures.goes_on (rw c.in-Some.is at c.in_ok-buys.ensures.told))
      (rw c.in-Some-2.is at c.in_ok-sells.ensures.told)) (rw c.in_default-3.is at c.in_ok-price.ensures.told))
      (λ books sized k. grind (
        arith,
        nat_tests,
        (found_side books c.args.buyer c.args.instrument c.in-Some.buys.side k.0.0).0,
        (found_side books c.args.seller c.args.instrument c.in-Some-2.sells.side k.0.1).0,
        k.1,
        c.if-buyer-seller.false,
      ));
  stands = c.in_ok-price.ensures.stands;
  goes_on = goes_as (goes_then (goes_then c.in_ok-buys.ensures.goes_on c.in_ok-sells.ensures.goes_on) c.in_ok-price.ensures.goes_on) (search rules);
}

-- what the calls before the exchange found
met : (g : _) (c : In-Some-3 g) → Looked g.W.Words g.W.Shape.Shape c.args.shape.now c.args.w.now c.price.new.w
    (IsMet c.args.buyer c.args.seller c.args.instrument c.in-Some.buys.side c.in-Some-2.sells.side c.in-Some-3.price)
met g c =
    looked_less (look_then c.in_ok-price.ensures.goes_on
    (look_then c.in_ok-sells.ensures.goes_on
    (looked c.in_ok-buys.ensures.goes_on (rw c.in-Some.is at c.in_ok-buys.ensures.told))
    (rw c.in-Some-2.is at c.in_ok-sells.ensures.told)) (rw c.in-Some-3.is at c.in_ok-price.ensures.told))
    (λ books sized k. record {
      apart = λ same. omega (arith, same, c.if-buyer-seller.false);
      payer = found_side books c.args.buyer c.args.instrument c.in-Some.buys.side k.0.0;
      payee = found_side books c.args.seller c.args.instrument c.in-Some-2.sells.side k.0.1;
      priced = k.1;
    })

pub returns-then-sells-amount : goal.returns-then-sells-amount
returns-then-sells-amount g c =
    let here = (goal.at.returns-then-sells-amount g c).In-Some-3 in
    record {
      step = answers (met g here) (λ books sized k. trade_quantity k c.args.amount c.if-sells-amount.true);
      stands = c.in_ok-price.ensures.stands;
      goes_on = goes_as (goes_then (goes_then c.in_ok-buys.ensures.goes_on c.in_ok-sells.ensures.goes_on) c.in_ok-price.ensures.goes_on) (search rules);
    }

pub returns-then-buys-cost : goal.returns-then-buys-cost
returns-then-buys-cost g c =
    let here = (goal.at.returns-then-buys-cost g c).In-Some-3 in
    record {
      step = answers (met g here) (λ books sized k. trade_cash k c.args.amount c.if-sells-amount.false c.if-buys-cost.true);
      stands = c.in_ok-price.ensures.stands;
      goes_on = goes_as (goes_then (goes_then c.in_ok-buys.ensures.goes_on c.in_ok-sells.ensures.goes_on) c.in_ok-price.ensures.goes_on) (search rules);
    }

pub returns-then-sells-cost-gt-GREATEST_CASH : goal.returns-then-sells-cost-gt-GREATEST_CASH
returns-then-sells-cost-gt-GREATEST_CASH g c =
    let here = (goal.at.returns-then-sells-cost-gt-GREATEST_CASH g c).In-Some-3 in
    record {
      step = answers (met g here) (λ books sized k. trade_limit k c.args.amount c.if-sells-amount.false c.if-buys-cost.false
          (elim c.then-sells-cost-gt-GREATEST_CASH.branch [
            | then-sells-cost-gt-GREATEST_CASH-via-then-sells-cost-gt-GREATEST_CASH w ↦ inl w.if-sells-cost-gt-GREATEST_CASH.true
            | then-sells-cost-gt-GREATEST_CASH-via-else-sells-cost-gt-GREATEST_CASH+then-buys-amount-gt-GREATEST_QUANTITY w
                ↦ inr w.if-buys-amount-gt-GREATEST_QUANTITY.true
          ]));
      stands = c.in_ok-price.ensures.stands;
      goes_on = goes_as (goes_then (goes_then c.in_ok-buys.ensures.goes_on c.in_ok-sells.ensures.goes_on) c.in_ok-price.ensures.goes_on) (search rules);
    }

pub exchange-requires-clause-buyer_held : goal.exchange-requires-clause-buyer_held
exchange-requires-clause-buyer_held g c =
    let second = c.in_ok-sells.ensures in
    let third = c.in_ok-price.ensures in
    let shape = c.args.shape.now in
    rw c.left_with-buys.ensures
    (held_told third.goes_on shape c.args.buyer c.in-Some.buys.block
    (held_told second.goes_on shape c.args.buyer c.in-Some.buys.block
    (rw c.in-Some.is at c.in_ok-buys.ensures.held) second.told) third.told)

pub exchange-requires-clause-seller_held : goal.exchange-requires-clause-seller_held
exchange-requires-clause-seller_held g c =
    let third = c.in_ok-price.ensures in
    rw c.left_with-sells.ensures
    (held_told third.goes_on c.args.shape.now c.args.seller c.in-Some-2.sells.block
    (rw c.in-Some-2.is at c.in_ok-sells.ensures.held) third.told)

pub exchange-requires-clause-may : goal.exchange-requires-clause-may
exchange-requires-clause-may g c =
    each_looked (met g (goal.at.exchange-requires-clause-may g c).In-Some-3) c.requires.stands
    (λ books sized k. may_exchange _ _ (ap (λ (f : Found). f.side.account) c.left_with-buys.ensures)
    (ap (λ (f : Found). f.side.account) c.left_with-sells.ensures) k (omega (arith, c.requires.amount.0, c.if-sells-amount.false)))

pub returns-then-not-branch : goal.returns-then-not-branch
returns-then-not-branch g c =
    let here = (goal.at.returns-then-not-branch g c).In-Some-3 in
    record {
      step =
          comes (look_turn c.in_ok-exchange.ensures.goes_on (met g here) (of_exchange c.in_ok-exchange.ensures.exchanged))
          (λ books after sized k. trade_full k.0 c.args.amount c.if-sells-amount.false c.if-buys-cost.false
          c.if-sells-cost-gt-GREATEST_CASH.false c.if-buys-amount-gt-GREATEST_QUANTITY.false c.requires.amount.0 _
          (rw (c.left_with-buys.ensures, c.left_with-sells.ensures) at k.1.0) c.if-not-branch.true);
      stands = c.in_ok-exchange.ensures.stands;
      goes_on = goes_as (goes_then (goes_then (goes_then c.in_ok-buys.ensures.goes_on c.in_ok-sells.ensures.goes_on)
          c.in_ok-price.ensures.goes_on) c.in_ok-exchange.ensures.goes_on) (search rules);
    }

pub returns : goal.returns
returns g c =
    let here = (goal.at.returns g c).In-Some-3 in
    record {
      step =
          comes (look_turn c.in_ok-exchange.ensures.goes_on (met g here) (of_exchange c.in_ok-exchange.ensures.exchanged))
          (λ books after sized k. trade_done k.0 c.args.amount c.if-sells-amount.false c.if-buys-cost.false
          c.if-sells-cost-gt-GREATEST_CASH.false c.if-buys-amount-gt-GREATEST_QUANTITY.false c.requires.amount.0 _
          (rw (c.left_with-buys.ensures, c.left_with-sells.ensures) at k.1.0) c.if-not-branch.false ∙ ap (Gives value.Done)
          (left_exchanged _ _ _ books after _ c.if-not-branch.false (rw (c.left_with-buys.ensures, c.left_with-sells.ensures) at k.1.1)));
      stands = c.in_ok-exchange.ensures.stands;
      goes_on = goes_as (goes_then (goes_then (goes_then c.in_ok-buys.ensures.goes_on c.in_ok-sells.ensures.goes_on)
          c.in_ok-price.ensures.goes_on) c.in_ok-exchange.ensures.goes_on) (search rules);
    }

pub returns-in_err-sells-clause-goes_on : goal.returns-in_err-sells-clause-goes_on
returns-in_err-sells-clause-goes_on g c = goes_as (goes_then c.in_ok-buys.ensures.goes_on c.in_err-sells.ensures.goes_on) (search rules)

pub returns-in_err-price-clause-goes_on : goal.returns-in_err-price-clause-goes_on
returns-in_err-price-clause-goes_on g c =
    goes_as (goes_then (goes_then c.in_ok-buys.ensures.goes_on c.in_ok-sells.ensures.goes_on) c.in_err-price.ensures.goes_on) (search rules)

pub returns-in_err-exchange-clause-goes_on : goal.returns-in_err-exchange-clause-goes_on
returns-in_err-exchange-clause-goes_on g c =
    goes_as (goes_then (goes_then (goes_then c.in_ok-buys.ensures.goes_on c.in_ok-sells.ensures.goes_on)
    c.in_ok-price.ensures.goes_on) c.in_err-exchange.ensures.goes_on) (search rules)
