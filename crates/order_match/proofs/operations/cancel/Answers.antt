use Rattle.order_match.proofs.Common.{leads_less}
use Rattle.order_match.proofs.Scripted.{absent_steps, cancelled_steps}
use Rattle.order_match.proofs.operations.cancel.Goals as goal

pub returns-in-Some-clause-step : goal.returns-in-Some-clause-step
returns-in-Some-clause-step g c =
    leads_less g.W.Words g.W.Shape.Shape _ _ _ _ (λ x y. cancelled_steps c.args.shape.now x y c.args.number c.in-Some.quantity)
    (rw c.in-Some.is at c.in_ok-quantity.ensures.cancelled)

pub returns-in-None-clause-step : goal.returns-in-None-clause-step
returns-in-None-clause-step g c =
    leads_less g.W.Words g.W.Shape.Shape _ _ _ _ (λ x y. absent_steps c.args.shape.now x y c.args.number)
    (rw c.in-None.is at c.in_ok-quantity.ensures.cancelled)
