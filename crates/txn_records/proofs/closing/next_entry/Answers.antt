use Rattle.txn_records.proofs.Common.{IfOk-weaker, leads_less, looked, looked_stands}
use Rattle.txn_records.proofs.Calls.{good_trees, tells_entry}
use Rattle.txn_records.proofs.closing.next_entry.Goals as goal

pub first_in-requires-clause-trees : goal.first_in-requires-clause-trees
first_in-requires-clause-trees g c = record { at = λ s fit. good_trees c.args.shape.now _ (c.requires.stands.at s fit) }

pub returns-clause-told : goal.returns-clause-told
returns-clause-told g c =
    IfOk-weaker c.first_in.result _ _
    (λ answer. leads_less g.W.Words g.W.Shape.Shape _ _ _ _ (tells_entry c.args.shape.now c.args.key answer))
    c.first_in.ensures.told

pub returns-clause-stands : goal.returns-clause-stands
returns-clause-stands g c =
    let goes = c.first_in.ensures.goes_on in
    IfOk-weaker c.first_in.result _ _ (λ answer told. looked_stands (looked goes.shape goes.begins told) c.requires.stands) (returns-clause-told g c)
