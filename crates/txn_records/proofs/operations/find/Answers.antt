use Rattle.txn_records.proofs.Common.{leads_less}
use Rattle.txn_records.proofs.Scripted.{found_steps, lacks_steps}
use Rattle.txn_records.proofs.operations.find.Goals as goal

pub returns-in-Some-clause-step : goal.returns-in-Some-clause-step
returns-in-Some-clause-step g c =
    leads_less g.W.Words g.W.Shape.Shape _ _ _ _ (λ x y. found_steps c.args.shape.now x y c.args.id c.in-Some.rank c.in-Some.content)
    (rw c.in-Some.is at c.in_ok-rank.ensures.told)

pub returns-in-None-clause-step : goal.returns-in-None-clause-step
returns-in-None-clause-step g c =
    leads_less g.W.Words g.W.Shape.Shape _ _ _ _ (λ x y. lacks_steps c.args.shape.now x y c.args.id) (rw c.in-None.is at c.in_ok-rank.ensures.told)
