use Rattle.order_match.proofs.Common.{suc, IfOk-weaker, ok_both, leads_less, leads_put, turned, turned_stands, side_at}
use Rattle.order_match.proofs.Family.{part_at}
use Rattle.order_match.proofs.OnParts.{part_apart, puts, side_below}
use Rattle.order_match.proofs.parts.put_on.Goals as goal

pub insert-requires-clause-order : goal.insert-requires-clause-order
insert-requires-clause-order g c =
    let shape = c.args.shape.now in
    let side = side_at c.args.side.now.instrument c.args.side.now.buys in
    rw c.tree.ensures (record { at = λ s fit. part_apart shape (suc side) (side_below _ _ _ c.requires.side) _ (c.requires.parts.at s fit) })

pub returns-clause-put : goal.returns-clause-put
returns-clause-put g c =
    let shape = c.args.shape.now in
    let side = side_at c.args.side.now.instrument c.args.side.now.buys in
    let put = rw c.tree.ensures at c.insert.ensures.put in
    let full = rw c.tree.ensures at c.insert.ensures.full in
    let frame = rw c.tree.ensures at c.insert.ensures.frame in
    IfOk-weaker c.insert.result _ _
    (λ answer k. leads_less g.W.Words g.W.Shape.Shape _ _ _ _ (puts shape (suc side) (side_below _ _ _ c.requires.side) c.args.key c.args.quantity answer)
    (leads_put g.W.Words g.W.Shape.Shape _ _ (part_at shape (suc side)) c.args.key c.args.quantity answer k.0.0 k.0.1 k.1))
    (ok_both _ _ c.insert.result (ok_both _ _ c.insert.result put full) frame)

pub returns-clause-parts : goal.returns-clause-parts
returns-clause-parts g c =
    let goes = c.insert.ensures.goes_on in
    IfOk-weaker c.insert.result _ _ (λ answer did. turned_stands (turned goes.shape goes.begins did) c.requires.parts) (returns-clause-put g c)
