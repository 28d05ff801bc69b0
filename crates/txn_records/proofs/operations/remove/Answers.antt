use Rattle.txn_records.proofs.Common.{leads_less}
use Rattle.txn_records.proofs.Scripted.{gone_steps, absent_steps}
use Rattle.txn_records.proofs.operations.remove.Goals as goal

pub returns-then-branch-clause-step : goal.returns-then-branch-clause-step
returns-then-branch-clause-step g c =
    leads_less g.W.Words g.W.Shape.Shape _ _ _ _ (λ x y. gone_steps c.args.shape.now x y c.args.id)
    (rw c.if-branch.true at c.in_ok-drop_record.ensures.dropped)

pub returns-else-branch-clause-step : goal.returns-else-branch-clause-step
returns-else-branch-clause-step g c =
    leads_less g.W.Words g.W.Shape.Shape _ _ _ _ (λ x y. absent_steps c.args.shape.now x y c.args.id)
    (rw c.if-branch.false at c.in_ok-drop_record.ensures.dropped)
