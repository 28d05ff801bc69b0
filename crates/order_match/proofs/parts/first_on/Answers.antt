use Rattle.order_match.proofs.Common.{suc, IfOk-weaker, FindsFirst, Tells, leads_less, looked, looked_stands, side_at, tree_of, HasParts, first_in}
use Rattle.order_match.proofs.OnParts.{part_there, side_below, tells_first}
use Rattle.order_match.proofs.parts.first_on.Goals as goal

pub first_from-requires-clause-order : goal.first_from-requires-clause-order
first_from-requires-clause-order g c =
    let shape = c.args.shape.now in
    let side = side_at c.args.side.now.instrument c.args.side.now.buys in
    rw c.tree.ensures (record { at = λ s fit. part_there shape (suc side) (side_below _ _ _ c.requires.side) _ (c.requires.parts.at s fit) })

pub returns-clause-told : goal.returns-clause-told
returns-clause-told g c =
    let shape = c.args.shape.now in
    let side = side_at c.args.side.now.instrument c.args.side.now.buys in
    IfOk-weaker c.first_from.result _ _
    (λ answer. leads_less g.W.Words g.W.Shape.Shape _ _ (FindsFirst (tree_of shape side) 0 answer)
    (Tells (HasParts shape) (λ held. first_in (held.sides side)) answer) (tells_first shape side (side_below _ _ _ c.requires.side) answer))
    (rw c.tree.ensures at c.first_from.ensures.found)

pub returns-clause-parts : goal.returns-clause-parts
returns-clause-parts g c =
    let goes = c.first_from.ensures.goes_on in
    IfOk-weaker c.first_from.result _ _ (λ answer told. looked_stands (looked goes.shape goes.begins told) c.requires.parts) (returns-clause-told g c)
