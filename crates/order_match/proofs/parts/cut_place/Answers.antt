use Rattle.order_match.proofs.Common.{arith, IfOk-weaker, ok_both, leads_less, leads_cut, turned, turned_stands}
use Rattle.order_match.proofs.Family.{part_at}
use Rattle.order_match.proofs.OnParts.{part_apart, cuts}
use Rattle.order_match.proofs.parts.cut_place.Goals as goal

pub remove-requires-clause-order : goal.remove-requires-clause-order
remove-requires-clause-order g c =
    let shape = c.args.shape.now in
    rw c.chains.ensures (record { at = λ s fit. part_apart shape 0 (omega arith) _ (c.requires.parts.at s fit) })

pub returns-clause-cut : goal.returns-clause-cut
returns-clause-cut g c =
    let shape = c.args.shape.now in
    let removed = rw (c.chains.ensures, c.from.ensures) at c.remove.ensures.removed in
    let frame = rw (c.chains.ensures, c.from.ensures) at c.remove.ensures.frame in
    IfOk-weaker c.remove.result _ _
    (λ answer k. leads_less g.W.Words g.W.Shape.Shape _ _ _ _ (cuts shape 0 (omega arith) c.args.number answer)
    (leads_cut g.W.Words g.W.Shape.Shape _ _ (part_at shape 0) c.args.number answer k.0 k.1))
    (ok_both _ _ c.remove.result removed frame)

pub returns-clause-parts : goal.returns-clause-parts
returns-clause-parts g c =
    let goes = c.remove.ensures.goes_on in
    IfOk-weaker c.remove.result _ _ (λ answer did. turned_stands (turned goes.shape goes.begins did) c.requires.parts) (returns-clause-cut g c)
