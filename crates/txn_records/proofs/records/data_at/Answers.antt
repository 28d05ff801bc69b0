use Rattle.txn_records.proofs.Common.{arith, IfOk-weaker, leads_less, looked, looked_stands}
use Rattle.txn_records.proofs.Calls.{good_trees, tells_data}
use Rattle.txn_records.proofs.records.data_at.Goals as goal

pub get_in-requires-clause-trees : goal.get_in-requires-clause-trees
get_in-requires-clause-trees g c = record { at = λ s fit. good_trees c.args.shape.now _ (c.requires.stands.at s fit) }

pub returns-clause-told : goal.returns-clause-told
returns-clause-told g c =
    IfOk-weaker c.get_in.result _ _
    (λ answer. leads_less g.W.Words g.W.Shape.Shape _ _ _ _ (tells_data c.args.shape.now c.args.rank c.args.id (omega arith) answer))
    (rw c.index_key.ensures at c.get_in.ensures.told)

pub returns-clause-stands : goal.returns-clause-stands
returns-clause-stands g c =
    let goes = c.get_in.ensures.goes_on in
    IfOk-weaker c.get_in.result _ _ (λ answer told. looked_stands (looked goes.shape goes.begins told) c.requires.stands) (returns-clause-told g c)
