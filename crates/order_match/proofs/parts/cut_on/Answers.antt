use Rattle.order_match.proofs.Common.{suc, IfOk-weaker, ok_both, leads_less, leads_cut, turned, turned_stands, side_at}
use Rattle.order_match.proofs.Family.{part_at}
use Rattle.order_match.proofs.OnParts.{part_apart, cuts, side_below}
use Rattle.order_match.proofs.parts.cut_on.Goals as goal

pub remove-requires-clause-order : goal.remove-requires-clause-order
remove-requires-clause-order g c =
    let shape = c.args.shape.now in
    let side = side_at c.args.side.now.instrument c.args.side.now.buys in
    rw c.tree.ensures (record { at = λ s fit. part_apart shape (suc side) (side_below _ _ _ c.requires.side) _ (c.requires.parts.at s fit) })

pub returns-clause-cut : goal.returns-clause-cut
returns-clause-cut g c =
    let shape = c.args.shape.now in
    let side = side_at c.args.side.now.instrument c.args.side.now.buys in
    let removed = rw c.tree.ensures at c.remove.ensures.removed in
    let frame = rw c.tree.ensures at c.remove.ensures.frame in
    IfOk-weaker c.remove.result _ _
    (λ answer k. leads_less g.W.Words g.W.Shape.Shape _ _ _ _ (cuts shape (suc side) (side_below _ _ _ c.requires.side) c.args.key answer)
    (leads_cut g.W.Words g.W.Shape.Shape _ _ (part_at shape (suc side)) c.args.key answer k.0 k.1))
    (ok_both _ _ c.remove.result removed frame)

pub returns-clause-parts : goal.returns-clause-parts
returns-clause-parts g c =
    let goes = c.remove.ensures.goes_on in
    IfOk-weaker c.remove.result _ _ (λ answer did. turned_stands (turned goes.shape goes.begins did) c.requires.parts) (returns-clause-cut g c)
