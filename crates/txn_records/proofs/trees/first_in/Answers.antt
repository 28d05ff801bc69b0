use Rattle.txn_records.proofs.Common.{IfOk-weaker, FindsFirst, Tells, leads_less, looked, looked_stands, tree_of, HasTrees, entries_in, first_in}
use Rattle.txn_records.proofs.Sides.{tree_there, tells_first}
use Rattle.txn_records.proofs.trees.first_in.Goals as goal

pub first_from-requires-clause-order : goal.first_from-requires-clause-order
first_from-requires-clause-order g c = rw c.tree.ensures (record { at = λ s fit. tree_there c.args.shape.now c.args.order _ (c.requires.trees.at s fit) })

pub returns-clause-told : goal.returns-clause-told
returns-clause-told g c =
    let shape = c.args.shape.now in
    IfOk-weaker c.first_from.result _ _
    (λ answer. leads_less g.W.Words g.W.Shape.Shape _ _ (FindsFirst (tree_of shape c.args.order) c.args.key answer)
    (Tells (HasTrees shape) (λ trees. first_in c.args.key (entries_in c.args.order trees)) answer) (tells_first shape c.args.order c.args.key answer))
    (rw c.tree.ensures at c.first_from.ensures.found)

pub returns-clause-trees : goal.returns-clause-trees
returns-clause-trees g c =
    let goes = c.first_from.ensures.goes_on in
    IfOk-weaker c.first_from.result _ _ (λ answer told. looked_stands (looked goes.shape goes.begins told) c.requires.trees) (returns-clause-told g c)
