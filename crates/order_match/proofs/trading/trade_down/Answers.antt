use Rattle.order_match.proofs.Common.{ℕ, ◌-◌, List, refl, sym, ap, subst, ◌∙◌, ◌++◌, ◌∷◌, [], inl, inr, arith, Resting, Trade, trade_with, goes_then}
use Rattle.order_match.proofs.Common.{leads_then, each_seen, looked, turned_stands, leads_less, Stands, after_trade}
use Rattle.txn_stores.proofs.Turning.{turn_by, unturned}
use Rattle.order_match.proofs.Entering.{matches_order, partner_rests, trading_begins, trading_ends, trading_more}
use Rattle.order_match.proofs.trading.trade_down.Goals as goal

-- trades with one more behind them
abbrev pushed : List Trade → Resting → ℕ → List Trade
pushed trades p quantity = trades ++ record { order = p.number; price = p.price; quantity = quantity } ∷ []

pub loop-left-init : goal.loop-left-init
loop-left-init g c = record {
  origin = refl;
  stop = c.requires.ready.going;
  sound = c.requires.ready.sound;
  run = unturned c.args.w.now _ (λ book. trading_begins c.args.order.now c.new-trades.result c.args.order.now.quantity c.new-trades.ensures refl book);
}

pub first_partner-requires-clause-stands : goal.first_partner-requires-clause-stands
first_partner-requires-clause-stands g c = turned_stands c.loop-left.invariant.run c.requires.stands

pub returns-in_default-clause-traded : goal.returns-in_default-clause-traded
returns-in_default-clause-traded g c =
    let goes = c.in_ok-partner.ensures.goes_on in
    let shape = c.args.shape.now in
    leads_less g.W.Words g.W.Shape.Shape _ _ _ _ (λ x y. matches_order shape c.args.order.now c.loop-left.trades c.loop-left.left x y)
    (turn_by goes.shape goes.begins c.loop-left.invariant.run (rw c.in_default.is at c.in_ok-partner.ensures.told)
    (λ x y book now stand so_far t. (
      now,
      subst (λ z. Stands shape z now) (sym t.same) stand,
      trading_ends shape.instruments c.args.order.now c.loop-left.trades c.loop-left.left book now stand.book_is so_far (inr (t.told now stand)),
    ))).leads

pub fill-requires-clause-range : goal.fill-requires-clause-range
fill-requires-clause-range g c = rw c.in-Some.is at c.in_ok-partner.ensures.range

pub fill-requires-clause-rests : goal.fill-requires-clause-rests
fill-requires-clause-rests g c =
    let goes = c.in_ok-partner.ensures.goes_on in
    each_seen (looked goes.shape goes.begins (rw c.in-Some.is at c.in_ok-partner.ensures.told))
    (λ x book stand told. partner_rests c.args.shape.now c.args.order.now c.in-Some.partner x book stand told)

pub returns-clause-traded : goal.returns-clause-traded
returns-clause-traded g c =
    let shape = c.args.shape.now in
    leads_less g.W.Words g.W.Shape.Shape _ _ _ _ (λ x y t. matches_order shape c.args.order.now c.loop-left.trades c.loop-left.left x y (record {
      at = λ book stand.
          let k = t.at book stand in (
            k.0,
            k.1,
            trading_ends shape.instruments c.args.order.now c.loop-left.trades c.loop-left.left book k.0 k.1.book_is k.2
                (inl (omega (arith, c.loop-left-test.false))),
          );
    }))
    c.loop-left.invariant.run.leads

pub returns-clause-stands : goal.returns-clause-stands
returns-clause-stands g c = turned_stands c.loop-left.invariant.run c.requires.stands

pub overflow_sub-left : goal.overflow_sub-left
overflow_sub-left g c = omega (arith, c.in_ok-traded.ensures.amount)

pub loop-left-smaller : goal.loop-left-smaller
loop-left-smaller g c =
    let range = rw c.in-Some.is at c.in_ok-partner.ensures.range in
    omega (arith, c.in_ok-traded.ensures.amount, range.limits_are.quantity_is.0, c.loop-left-test.true)

pub loop-left-preserved : goal.loop-left-preserved
loop-left-preserved g c =
    let look = c.in_ok-partner.ensures.goes_on in
    let fills = c.in_ok-traded.ensures.goes_on in
    let both = goes_then look fills in
    let shape = c.args.shape.now in
    let i = c.loop-left.invariant in
    let p = c.in-Some.partner in
    let amount = c.in_ok-traded.ensures.amount in
    record {
      origin = both.origin ∙ i.origin;
      stop = both.stops;
      sound = both.sound;
      run = turn_by both.shape both.begins i.run
          (leads_then g.W.Words g.W.Shape.Shape _ _ _ _ _ look.shape fills.begins (rw c.in-Some.is at c.in_ok-partner.ensures.told)
          c.in_ok-traded.ensures.filled)
          (λ x z book now stand so_far k. (
            after_trade (trade_with c.loop-left.left p) now,
            k.2 now (subst (λ l. Stands shape l now) (sym k.1.same) stand),
            trading_more shape.instruments c.args.order.now c.loop-left.trades c.loop-left.left book now stand.book_is so_far p (k.1.told now stand)
                (λ none. omega (arith, c.loop-left-test.true, none)) c.push.new.self (c.loop-left.left - c.in_ok-traded.traded)
                (c.in_ok-push.ensures.ok ∙ ap (pushed c.loop-left.trades p) amount) (ap (λ n. c.loop-left.left - n) amount),
          ));
    }
