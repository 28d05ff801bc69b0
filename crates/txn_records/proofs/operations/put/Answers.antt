use Rattle.txn_records.proofs.Common.{leads_less}
use Rattle.txn_records.proofs.Scripted.{new_steps, old_steps}
use Rattle.txn_records.proofs.operations.put.Goals as goal

pub returns-in-New-clause-step : goal.returns-in-New-clause-step
returns-in-New-clause-step g c =
    leads_less g.W.Words g.W.Shape.Shape _ _ _ _ (λ x y. new_steps c.args.shape.now x y c.args.id c.args.rank c.args.content)
    (rw c.in-New.is at c.in_ok-put_record.ensures.put)

pub returns-in-Old-clause-step : goal.returns-in-Old-clause-step
returns-in-Old-clause-step g c =
    leads_less g.W.Words g.W.Shape.Shape _ _ _ _ (λ x y. old_steps c.args.shape.now x y c.args.id c.args.rank c.args.content _)
    (rw c.in-Old.is at c.in_ok-put_record.ensures.put)
