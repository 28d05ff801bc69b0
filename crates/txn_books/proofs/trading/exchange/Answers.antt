use Rattle.txn_books.proofs.Common.{if◌then◌else◌, IsSome, sym, ap, subst, ◌∙◌, rules, goes_then, goes_as, put_cash, put_position, sold}
use Rattle.txn_books.proofs.OnBooks.Accounts.{held_kept}
use Rattle.txn_books.proofs.OnBooks.Turning.{turn_then, turned_less, of_change, each_turned}
use Rattle.txn_books.proofs.OnBooks.TradeSides.{has_sold, has_bought, bought, exchanges}
use Rattle.std.specs.FinMap as map
use Rattle.txn_books.proofs.trading.exchange.Goals as goal

pub set_quantity-requires-clause-account : goal.set_quantity-requires-clause-account
set_quantity-requires-clause-account g c = record { at = λ s fit books stand. (c.requires.may.at s fit books stand).seller }

pub set_quantity-requires-clause-price : goal.set_quantity-requires-clause-price
set_quantity-requires-clause-price g c = record { at = λ s fit books stand. (c.requires.may.at s fit books stand).price }

pub set_quantity-requires-2-clause-account : goal.set_quantity-requires-2-clause-account
set_quantity-requires-2-clause-account g c =
    each_turned (has_sold c.requires.may c.in_ok-set_quantity.ensures.goes_on c.in_ok-set_quantity.ensures.held) c.requires.stands
    (λ books after sized k. subst (λ z. IsSome (map.get z.accounts c.args.buys.side.account)) (sym k.1) k.0.buyer)

pub set_quantity-requires-2-clause-price : goal.set_quantity-requires-2-clause-price
set_quantity-requires-2-clause-price g c =
    each_turned (has_sold c.requires.may c.in_ok-set_quantity.ensures.goes_on c.in_ok-set_quantity.ensures.held) c.requires.stands
    (λ books after sized k. subst (λ z. IsSome (map.get z.prices c.args.instrument)) (sym k.1) k.0.price)

pub returns-then-not-branch : goal.returns-then-not-branch
returns-then-not-branch g c = record {
  exchanged =
      exchanges (turned_less (has_bought (has_sold c.requires.may c.in_ok-set_quantity.ensures.goes_on
      c.in_ok-set_quantity.ensures.held) c.in_ok-set_quantity-2.ensures.goes_on c.in_ok-set_quantity-2.ensures.held)
      (λ books after sized k. (
        sym c.if-not-branch.true ∙ k.1,
        k.2
            ∙ ap (λ t. if t then put_position (sold c.args.instrument c.args.sells.side books) c.args.buys.side.account
            c.args.instrument c.args.buys.side.held else sold c.args.instrument c.args.sells.side books) c.if-not-branch.true,
      )));
  stands = c.in_ok-set_quantity-2.ensures.stands;
  goes_on = goes_as (goes_then c.in_ok-set_quantity.ensures.goes_on c.in_ok-set_quantity-2.ensures.goes_on) (search rules);
}

pub set_balance-requires-clause-held : goal.set_balance-requires-clause-held
set_balance-requires-clause-held g c =
    let first = c.in_ok-set_quantity.ensures in
    let second = c.in_ok-set_quantity-2.ensures in
    let shape = c.args.shape.now in
    held_kept second.goes_on shape c.args.buys.side.account c.args.buys.block
    (held_kept first.goes_on shape c.args.buys.side.account c.args.buys.block
    c.requires.buyer_held first.blocks) second.blocks

pub set_balance-requires-2-clause-held : goal.set_balance-requires-2-clause-held
set_balance-requires-2-clause-held g c =
    let first = c.in_ok-set_quantity.ensures in
    let second = c.in_ok-set_quantity-2.ensures in
    let third = c.in_ok-set_balance.ensures in
    let shape = c.args.shape.now in
    held_kept third.goes_on shape c.args.sells.side.account c.args.sells.block
    (held_kept second.goes_on shape c.args.sells.side.account c.args.sells.block
    (held_kept first.goes_on shape c.args.sells.side.account c.args.sells.block
    c.requires.seller_held first.blocks) second.blocks) third.blocks

pub returns : goal.returns
returns g c = record {
  exchanged =
      exchanges (turned_less (turn_then c.in_ok-set_balance-2.ensures.goes_on
      (turn_then c.in_ok-set_balance.ensures.goes_on
      (turned_less (has_bought (has_sold c.requires.may c.in_ok-set_quantity.ensures.goes_on
      c.in_ok-set_quantity.ensures.held) c.in_ok-set_quantity-2.ensures.goes_on c.in_ok-set_quantity-2.ensures.held)
      (λ books after sized k. bought (c.args.instrument) c.args.buys.side c.args.sells.side books after _
      c.if-not-branch.false k)) (of_change c.in_ok-set_balance.ensures.changed)) (of_change c.in_ok-set_balance-2.ensures.changed))
      (λ books last sized k. (
        k.1.1.1,
        k.2 ∙ ap (λ z. put_cash z c.args.sells.side.account c.args.sells.side.cash) (k.1.2
            ∙ ap (λ z. put_cash z c.args.buys.side.account c.args.buys.side.cash) k.1.1.2),
      )));
  stands = c.in_ok-set_balance-2.ensures.stands;
  goes_on = goes_as (goes_then (goes_then
      (goes_then c.in_ok-set_quantity.ensures.goes_on c.in_ok-set_quantity-2.ensures.goes_on)
      c.in_ok-set_balance.ensures.goes_on) c.in_ok-set_balance-2.ensures.goes_on) (search rules);
}

pub returns-in_err-set_quantity-2-clause-goes_on : goal.returns-in_err-set_quantity-2-clause-goes_on
returns-in_err-set_quantity-2-clause-goes_on g c =
    goes_as (goes_then c.in_ok-set_quantity.ensures.goes_on c.in_err-set_quantity-2.ensures.goes_on) (search rules)

pub returns-in_err-set_balance-clause-goes_on : goal.returns-in_err-set_balance-clause-goes_on
returns-in_err-set_balance-clause-goes_on g c =
    goes_as (goes_then (goes_then c.in_ok-set_quantity.ensures.goes_on c.in_ok-set_quantity-2.ensures.goes_on)
    c.in_err-set_balance.ensures.goes_on) (search rules)

pub returns-in_err-set_balance-2-clause-goes_on : goal.returns-in_err-set_balance-2-clause-goes_on
returns-in_err-set_balance-2-clause-goes_on g c =
    goes_as (goes_then (goes_then (goes_then c.in_ok-set_quantity.ensures.goes_on
    c.in_ok-set_quantity-2.ensures.goes_on) c.in_ok-set_balance.ensures.goes_on) c.in_err-set_balance-2.ensures.goes_on) (search rules)
