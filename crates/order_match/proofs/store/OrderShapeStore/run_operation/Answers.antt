use Rattle.order_match.proofs.Common.{IfOk-weaker, leads_less}
use Rattle.order_match.proofs.store.OrderShapeStore.run_operation.Goals as goal

pub returns-in-Buy-clause-step : goal.returns-in-Buy-clause-step
returns-in-Buy-clause-step g c =
    rw c.in-Buy.is
    (IfOk-weaker c.enter.result _ _ (λ outcome. leads_less g.W.Words g.W.Shape.Shape _ _ _ _ (λ x y e. record { comes = e.comes }))
    c.enter.ensures.enters)

pub returns-in-Sell-clause-step : goal.returns-in-Sell-clause-step
returns-in-Sell-clause-step g c =
    rw c.in-Sell.is
    (IfOk-weaker c.enter-in-Sell.result _ _ (λ outcome. leads_less g.W.Words g.W.Shape.Shape _ _ _ _ (λ x y e. record { comes = e.comes }))
    c.enter-in-Sell.ensures.enters)

pub returns-in-Cancel-clause-step : goal.returns-in-Cancel-clause-step
returns-in-Cancel-clause-step g c = rw c.in-Cancel.is c.cancel.ensures.step

pub returns-in-Best-clause-step : goal.returns-in-Best-clause-step
returns-in-Best-clause-step g c = rw c.in-Best.is c.best.ensures.step
