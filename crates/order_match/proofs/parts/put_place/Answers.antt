use Rattle.order_match.proofs.Common.{arith, IfOk-weaker, ok_both, leads_less, leads_put, turned, turned_stands}
use Rattle.order_match.proofs.Family.{part_at}
use Rattle.order_match.proofs.OnParts.{part_apart, puts}
use Rattle.order_match.proofs.parts.put_place.Goals as goal

pub insert-requires-clause-order : goal.insert-requires-clause-order
insert-requires-clause-order g c =
    let shape = c.args.shape.now in
    rw c.chains.ensures (record { at = λ s fit. part_apart shape 0 (omega arith) _ (c.requires.parts.at s fit) })

pub returns-clause-put : goal.returns-clause-put
returns-clause-put g c =
    let shape = c.args.shape.now in
    let put = rw (c.chains.ensures, c.from.ensures) at c.insert.ensures.put in
    let full = rw (c.chains.ensures, c.from.ensures) at c.insert.ensures.full in
    let frame = rw (c.chains.ensures, c.from.ensures) at c.insert.ensures.frame in
    IfOk-weaker c.insert.result _ _
    (λ answer k. leads_less g.W.Words g.W.Shape.Shape _ _ _ _ (puts shape 0 (omega arith) c.args.number c.args.place answer)
    (leads_put g.W.Words g.W.Shape.Shape _ _ (part_at shape 0) c.args.number c.args.place answer k.0.0 k.0.1 k.1))
    (ok_both _ _ c.insert.result (ok_both _ _ c.insert.result put full) frame)

pub returns-clause-parts : goal.returns-clause-parts
returns-clause-parts g c =
    let goes = c.insert.ensures.goes_on in
    IfOk-weaker c.insert.result _ _ (λ answer did. turned_stands (turned goes.shape goes.begins did) c.requires.parts) (returns-clause-put g c)
