use Rattle.order_match.proofs.Common.{suc, IfOk-weaker, side_at, leads_less, looked, looked_stands}
use Rattle.order_match.proofs.OnParts.{part_there, side_below, tells_get}
use Rattle.order_match.proofs.parts.quantity_on.Goals as goal

pub get-requires-clause-order : goal.get-requires-clause-order
get-requires-clause-order g c =
    let shape = c.args.shape.now in
    let side = side_at c.args.side.now.instrument c.args.side.now.buys in
    rw c.tree.ensures (record { at = λ s fit. part_there shape (suc side) (side_below _ _ _ c.requires.side) _ (c.requires.parts.at s fit) })

pub returns-clause-told : goal.returns-clause-told
returns-clause-told g c =
    let shape = c.args.shape.now in
    let side = side_at c.args.side.now.instrument c.args.side.now.buys in
    IfOk-weaker c.get.result _ _
    (λ answer. leads_less g.W.Words g.W.Shape.Shape _ _ _ _ (tells_get shape (suc side) (side_below _ _ _ c.requires.side) c.args.key answer))
    (rw c.tree.ensures at c.get.ensures.found)

pub returns-clause-parts : goal.returns-clause-parts
returns-clause-parts g c =
    let goes = c.get.ensures.goes_on in
    IfOk-weaker c.get.result _ _ (λ answer told. looked_stands (looked goes.shape goes.begins told) c.requires.parts) (returns-clause-told g c)
