use Rattle.txn_records.proofs.Common.{leads_less}
use Rattle.txn_records.proofs.Scripted.{list_steps}
use Rattle.txn_records.proofs.operations.list.Goals as goal

pub returns-clause-step : goal.returns-clause-step
returns-clause-step g c =
    leads_less g.W.Words g.W.Shape.Shape _ _ _ _ (λ x y. list_steps c.args.shape.now x y c.args.rank c.args.most c.in_ok-ids.ids) c.in_ok-ids.ensures.told
