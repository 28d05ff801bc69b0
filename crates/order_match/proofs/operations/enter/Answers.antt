use Rattle.order_match.proofs.Common.{arith, ◌∙◌, begins_trans, leads_then, state_after, each_seen, leads_less, looked, IsGoodFor}
use Rattle.order_match.proofs.Entered.{enters_done, enters_no_number, enters_no_room, last_below}
use Rattle.order_match.proofs.operations.enter.Goals as goal

pub trade_down-requires-clause-instrument : goal.trade_down-requires-clause-instrument
trade_down-requires-clause-instrument g c = c.requires.limits.instrument_is

pub returns-in_default-clause-enters : goal.returns-in_default-clause-enters
returns-in_default-clause-enters g c =
    let first = c.in_ok-trades.ensures.hands_on in
    let second = c.in_ok-number.ensures.goes_on in
    leads_less g.W.Words g.W.Shape.Shape _ _ _ _
    (λ x z k. enters_no_number c.args.shape.now c.args.buys c.args.instrument c.args.price c.args.quantity c.requires.limits
    c.in_ok-trades.left c.in_ok-trades.trades x k.0 z k.1 k.2)
    (leads_then g.W.Words g.W.Shape.Shape _ _ _ _ _ first.shape second.begins c.in_ok-trades.ensures.traded
    (rw c.in_default.is at c.in_ok-number.ensures.told))

pub rest_order-requires-clause-instrument : goal.rest_order-requires-clause-instrument
rest_order-requires-clause-instrument g c = c.requires.limits.instrument_is

pub rest_order-requires-clause-price : goal.rest_order-requires-clause-price
rest_order-requires-clause-price g c = omega (arith, c.requires.limits.price_is.1)

pub rest_order-requires-clause-new : goal.rest_order-requires-clause-new
rest_order-requires-clause-new g c =
    let goes = c.in_ok-number.ensures.goes_on in
    each_seen (looked goes.shape goes.begins (rw c.in-Some.is at c.in_ok-number.ensures.told))
    (λ x book stand told. last_below book.last c.in-Some.number told)

pub returns-else-branch-clause-enters : goal.returns-else-branch-clause-enters
returns-else-branch-clause-enters g c =
    let first = c.in_ok-trades.ensures.hands_on in
    let second = c.in_ok-number.ensures.goes_on in
    let third = c.in_ok-rest_order.ensures.goes_on in
    let words = g.W.Words in
    let shapes = g.W.Shape.Shape in
    leads_less words shapes _ _ _ _
    (λ x w k. enters_no_room c.args.shape.now c.args.buys c.args.instrument c.args.price c.args.quantity c.requires.limits c.in-Some.number
    c.in_ok-trades.left c.in_ok-trades.trades x k.1.0 k.0 w k.1.1 k.1.2 k.2)
    (leads_then words shapes _ _ _ _ _ (second.shape ∙ first.shape) third.begins
    (leads_then words shapes _ _ _ _ _ first.shape second.begins c.in_ok-trades.ensures.traded (rw c.in-Some.is at c.in_ok-number.ensures.told))
    (rw c.if-branch.false at c.in_ok-rest_order.ensures.rested))

pub returns-in_ok-set_last_number-clause-enters : goal.returns-in_ok-set_last_number-clause-enters
returns-in_ok-set_last_number-clause-enters g c =
    let first = c.in_ok-trades.ensures.hands_on in
    let second = c.in_ok-number.ensures.goes_on in
    let third = c.in_ok-rest_order.ensures.goes_on in
    let fourth = c.in_ok-set_last_number.ensures.goes_on in
    let words = g.W.Words in
    let shapes = g.W.Shape.Shape in
    leads_less words shapes _ _ _ _
    (λ x w k. enters_done c.args.shape.now c.args.buys c.args.instrument c.args.price c.args.quantity c.requires.limits c.in-Some.number
    c.in_ok-trades.left c.in_ok-trades.trades x k.1.1.0 k.1.0 k.0 w k.1.1.1 k.1.1.2 k.1.2 k.2)
    (leads_then words shapes _ _ _ _ _ (third.shape ∙ second.shape ∙ first.shape) fourth.begins
    (leads_then words shapes _ _ _ _ _ (second.shape ∙ first.shape) third.begins
    (leads_then words shapes _ _ _ _ _ first.shape second.begins c.in_ok-trades.ensures.traded (rw c.in-Some.is at c.in_ok-number.ensures.told))
    (rw c.if-branch.true at c.in_ok-rest_order.ensures.rested))
    (rw c.from.ensures at c.in_ok-set_last_number.ensures.set))

pub returns-in_ok-set_last_number-clause-stands : goal.returns-in_ok-set_last_number-clause-stands
returns-in_ok-set_last_number-clause-stands g c =
    let first = c.in_ok-trades.ensures.hands_on in
    let second = c.in_ok-number.ensures.goes_on in
    let third = c.in_ok-rest_order.ensures.goes_on in
    let fourth = c.in_ok-set_last_number.ensures.goes_on in
    state_after g.W.Words g.W.Shape.Shape _ _ (IsGoodFor c.args.shape.now) (IsGoodFor c.args.shape.now) _
    (fourth.shape ∙ third.shape ∙ second.shape ∙ first.shape)
    (begins_trans _ _ _ first.begins (begins_trans _ _ _ second.begins (begins_trans _ _ _ third.begins fourth.begins)))
    c.requires.stands (returns-in_ok-set_last_number-clause-enters g c)
    (λ x y good entered. let last = entered.comes good.0 good.1 in (last.0, last.2))
