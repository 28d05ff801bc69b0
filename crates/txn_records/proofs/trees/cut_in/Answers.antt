use Rattle.txn_records.proofs.Common.{IfOk-weaker, tree_part, ok_both, leads_less, turned, turned_stands, tree_of}
use Rattle.txn_stores.proofs.Turning.{leads_cut}
use Rattle.txn_records.proofs.Sides.{tree_apart, cuts}
use Rattle.txn_records.proofs.trees.cut_in.Goals as goal

pub remove-requires-clause-order : goal.remove-requires-clause-order
remove-requires-clause-order g c = rw c.tree.ensures (record { at = λ s fit. tree_apart c.args.shape.now c.args.order _ (c.requires.trees.at s fit) })

pub returns-clause-cut : goal.returns-clause-cut
returns-clause-cut g c =
    let shape = c.args.shape.now in
    let o = c.args.order in
    let removed = rw c.tree.ensures at c.remove.ensures.removed in
    let frame = rw c.tree.ensures at c.remove.ensures.frame in
    IfOk-weaker c.remove.result _ _
    (λ answer k. leads_less g.W.Words g.W.Shape.Shape _ _ _ _ (cuts shape o c.args.key answer)
    (leads_cut g.W.Words g.W.Shape.Shape _ _ (tree_part (tree_of shape o)) c.args.key answer k.0 k.1))
    (ok_both _ _ c.remove.result removed frame)

pub returns-clause-trees : goal.returns-clause-trees
returns-clause-trees g c =
    let goes = c.remove.ensures.goes_on in
    IfOk-weaker c.remove.result _ _ (λ answer did. turned_stands (turned goes.shape goes.begins did) c.requires.trees) (returns-clause-cut g c)
