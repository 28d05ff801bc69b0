use Rattle.order_match.proofs.Common.{arith, IfOk-weaker, leads_less, looked, looked_stands}
use Rattle.order_match.proofs.OnParts.{part_there, tells_get}
use Rattle.order_match.proofs.parts.place_of.Goals as goal

pub get-requires-clause-order : goal.get-requires-clause-order
get-requires-clause-order g c =
    let shape = c.args.shape.now in
    rw c.chains.ensures (record { at = λ s fit. part_there shape 0 (omega arith) _ (c.requires.parts.at s fit) })

pub returns-clause-told : goal.returns-clause-told
returns-clause-told g c =
    let shape = c.args.shape.now in
    IfOk-weaker c.get.result _ _
    (λ answer. leads_less g.W.Words g.W.Shape.Shape _ _ _ _ (tells_get shape 0 (omega arith) c.args.number answer))
    (rw (c.chains.ensures, c.from.ensures) at c.get.ensures.found)

pub returns-clause-parts : goal.returns-clause-parts
returns-clause-parts g c =
    let goes = c.get.ensures.goes_on in
    IfOk-weaker c.get.result _ _ (λ answer told. looked_stands (looked goes.shape goes.begins told) c.requires.parts) (returns-clause-told g c)
