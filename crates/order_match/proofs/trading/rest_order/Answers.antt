use Rattle.order_match.proofs.Common.{IfOk-weaker, refl, leads_less}
use Rattle.txn_stores.proofs.Common.{begins_refl}
use Rattle.order_match.proofs.Calls.{good_parts}
use Rattle.order_match.proofs.Entering.{rests_nothing, rests_some}
use Rattle.order_match.proofs.trading.rest_order.Goals as goal

-- nothing is left of it, and nothing was done
pub returns-then-order-eq0 : goal.returns-then-order-eq0
returns-then-order-eq0 g c = record {
  rested = record { at = λ s fit. rests_nothing c.args.shape.now c.args.order.now _ c.if-order-eq0.true };
  parts = record { at = λ s fit. good_parts c.args.shape.now _ (c.requires.stands.at s fit) };
  goes_on = record { shape = refl; origin = refl; begins = begins_refl _; stops = c.requires.ready.going; sound = c.requires.ready.sound };
}

pub returns-clause-rested : goal.returns-clause-rested
returns-clause-rested g c =
    IfOk-weaker c.put_order.result _ _
    (λ had_room. leads_less g.W.Words g.W.Shape.Shape _ _ _ _ (λ x y. rests_some c.args.shape.now c.args.order.now had_room x y c.if-order-eq0.false))
    c.put_order.ensures.put
