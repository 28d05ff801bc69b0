use Rattle.order_match.proofs.Common.{◌<◌, ◌≤◌, arith, goes_then, state_after, leads_when, turned, turn_then, IsGoodFor, after_trade, trade_with}
use Rattle.order_match.proofs.Calls.{good_parts}
use Rattle.order_match.proofs.Entering.{filled_all, filled_partly}
use Rattle.order_match.proofs.trading.fill.Goals as goal

pub key-key-requires : goal.key-key-requires
key-key-requires g c = omega (arith, c.requires.range.limits_are.price_is.1)

pub cut_on-requires-clause-parts : goal.cut_on-requires-clause-parts
cut_on-requires-clause-parts g c = record { at = λ s fit. good_parts c.args.shape.now _ (c.requires.stands.at s fit) }

pub cut_on-requires-clause-side : goal.cut_on-requires-clause-side
cut_on-requires-clause-side g c = rw c.of-side.ensures c.requires.range.limits_are.instrument_is

pub put_on-requires-clause-parts : goal.put_on-requires-clause-parts
put_on-requires-clause-parts g c = record { at = λ s fit. good_parts c.args.shape.now _ (c.requires.stands.at s fit) }

pub put_on-requires-clause-side : goal.put_on-requires-clause-side
put_on-requires-clause-side g c = rw c.of-side.ensures c.requires.range.limits_are.instrument_is

pub returns-then-partner-left-clause-filled : goal.returns-then-partner-left-clause-filled
returns-then-partner-left-clause-filled g c =
    let all_of_it : c.args.partner.now.quantity ≤ c.args.left = c.if-partner-left.true in
    let first = c.in_ok-cut_on.ensures.goes_on in
    let second = c.in_ok-cut_place.ensures.goes_on in
    let all = turn_then second.shape second.begins
    (turned first.shape first.begins (rw c.of-side.ensures at rw c.key-key.ensures at c.in_ok-cut_on.ensures.cut))
    c.in_ok-cut_place.ensures.cut in
    leads_when g.W.Words g.W.Shape.Shape _ _ _ _ _ all.begins c.requires.rests
    (λ x y rests. filled_all c.args.shape.now c.args.partner.now c.args.left x y rests all_of_it _ _)
    all.leads

pub returns-then-partner-left-clause-stands : goal.returns-then-partner-left-clause-stands
returns-then-partner-left-clause-stands g c =
    let goes = goes_then c.in_ok-cut_on.ensures.goes_on c.in_ok-cut_place.ensures.goes_on in
    state_after g.W.Words g.W.Shape.Shape _ _ (IsGoodFor c.args.shape.now) (IsGoodFor c.args.shape.now) _ goes.shape goes.begins c.requires.stands
    (returns-then-partner-left-clause-filled g c)
    (λ x y good change. (after_trade (trade_with c.args.left c.args.partner.now) good.0, change good.0 good.1))

pub returns-clause-filled : goal.returns-clause-filled
returns-clause-filled g c =
    let less : c.args.left < c.args.partner.now.quantity = omega (arith, c.if-partner-left.false) in
    let goes = c.in_ok-put_on.ensures.goes_on in
    leads_when g.W.Words g.W.Shape.Shape _ _ _ _ _ goes.begins c.requires.rests
    (λ x y rests. filled_partly c.args.shape.now c.args.partner.now c.args.left x y rests less _)
    (rw c.of-side.ensures at rw c.key-key.ensures at c.in_ok-put_on.ensures.put)

pub returns-clause-stands : goal.returns-clause-stands
returns-clause-stands g c =
    let goes = c.in_ok-put_on.ensures.goes_on in
    state_after g.W.Words g.W.Shape.Shape _ _ (IsGoodFor c.args.shape.now) (IsGoodFor c.args.shape.now) _ goes.shape goes.begins c.requires.stands
    (returns-clause-filled g c)
    (λ x y good change. (after_trade (trade_with c.args.left c.args.partner.now) good.0, change good.0 good.1))
