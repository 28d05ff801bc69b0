use Rattle.order_match.proofs.Common.{leads_less, looked, look_then}
use Rattle.order_match.proofs.Scripted.{best_steps}
use Rattle.order_match.proofs.operations.best.Goals as goal

pub returns-clause-step : goal.returns-clause-step
returns-clause-step g c =
    let first = c.in_ok-buy.ensures.goes_on in
    let second = c.in_ok-sell.ensures.goes_on in
    leads_less g.W.Words g.W.Shape.Shape _ _ _ _ (λ x y. best_steps c.args.shape.now x y c.args.instrument c.in_ok-buy.buy c.in_ok-sell.sell)
    (look_then second.shape second.begins (looked first.shape first.begins c.in_ok-buy.ensures.told)
    (rw c.other.ensures at c.in_ok-sell.ensures.told)).leads
