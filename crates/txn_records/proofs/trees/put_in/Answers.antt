use Rattle.txn_records.proofs.Common.{IfOk-weaker, tree_part, ok_both, leads_less, turned, turned_stands, tree_of}
use Rattle.txn_stores.proofs.Turning.{leads_put}
use Rattle.txn_records.proofs.Sides.{tree_apart, puts}
use Rattle.txn_records.proofs.trees.put_in.Goals as goal

pub insert-requires-clause-order : goal.insert-requires-clause-order
insert-requires-clause-order g c = rw c.tree.ensures (record { at = λ s fit. tree_apart c.args.shape.now c.args.order _ (c.requires.trees.at s fit) })

pub returns-clause-put : goal.returns-clause-put
returns-clause-put g c =
    let shape = c.args.shape.now in
    let o = c.args.order in
    let put = rw c.tree.ensures at c.insert.ensures.put in
    let full = rw c.tree.ensures at c.insert.ensures.full in
    let frame = rw c.tree.ensures at c.insert.ensures.frame in
    IfOk-weaker c.insert.result _ _
    (λ answer k. leads_less g.W.Words g.W.Shape.Shape _ _ _ _ (puts shape o c.args.key c.args.value answer)
    (leads_put g.W.Words g.W.Shape.Shape _ _ (tree_part (tree_of shape o)) c.args.key c.args.value answer k.0.0 k.0.1 k.1))
    (ok_both _ _ c.insert.result (ok_both _ _ c.insert.result put full) frame)

pub returns-clause-trees : goal.returns-clause-trees
returns-clause-trees g c =
    let goes = c.insert.ensures.goes_on in
    IfOk-weaker c.insert.result _ _ (λ answer did. turned_stands (turned goes.shape goes.begins did) c.requires.trees) (returns-clause-put g c)
