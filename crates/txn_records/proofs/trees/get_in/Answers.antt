use Rattle.txn_records.proofs.Common.{IfOk-weaker, Finds, tree_part, Tells, leads_less, looked, looked_stands, tree_of, HasTrees, entries_in}
use Rattle.txn_records.proofs.Sides.{tree_there, tells_get}
use Rattle.std.specs.FinMap as finite
use Rattle.txn_records.proofs.trees.get_in.Goals as goal

pub get-requires-clause-order : goal.get-requires-clause-order
get-requires-clause-order g c = rw c.tree.ensures (record { at = λ s fit. tree_there c.args.shape.now c.args.order _ (c.requires.trees.at s fit) })

pub returns-clause-told : goal.returns-clause-told
returns-clause-told g c =
    let shape = c.args.shape.now in
    IfOk-weaker c.get.result _ _
    (λ answer. leads_less g.W.Words g.W.Shape.Shape _ _ (Finds (tree_part (tree_of shape c.args.order)) c.args.key answer)
    (Tells (HasTrees shape) (λ trees. finite.get (entries_in c.args.order trees) c.args.key) answer) (tells_get shape c.args.order c.args.key answer))
    (rw c.tree.ensures at c.get.ensures.found)

pub returns-clause-trees : goal.returns-clause-trees
returns-clause-trees g c =
    let goes = c.get.ensures.goes_on in
    IfOk-weaker c.get.result _ _ (λ answer told. looked_stands (looked goes.shape goes.begins told) c.requires.trees) (returns-clause-told g c)
