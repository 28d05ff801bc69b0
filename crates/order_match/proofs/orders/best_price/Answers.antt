use Rattle.order_match.proofs.Common.{leads_less, looked, looked_stands}
use Rattle.order_match.proofs.Calls.{good_parts, tells_best}
use Rattle.order_match.proofs.orders.best_price.Goals as goal

pub first_on-requires-clause-parts : goal.first_on-requires-clause-parts
first_on-requires-clause-parts g c = record { at = λ s fit. good_parts c.args.shape.now _ (c.requires.stands.at s fit) }

pub returns-in-Some-clause-told : goal.returns-in-Some-clause-told
returns-in-Some-clause-told g c =
    rw c.price.ensures.value
    (leads_less g.W.Words g.W.Shape.Shape _ _ _ _
    (tells_best c.args.shape.now c.args.side.now.instrument c.args.side.now.buys c.requires.side.0 _) (rw c.in-Some.is at c.in_ok-key.ensures.told))

pub returns-in-Some-clause-stands : goal.returns-in-Some-clause-stands
returns-in-Some-clause-stands g c =
    let goes = c.in_ok-key.ensures.goes_on in
    looked_stands (looked goes.shape goes.begins (returns-in-Some-clause-told g c)) c.requires.stands

pub returns-in-None-clause-told : goal.returns-in-None-clause-told
returns-in-None-clause-told g c =
    leads_less g.W.Words g.W.Shape.Shape _ _ _ _
    (tells_best c.args.shape.now c.args.side.now.instrument c.args.side.now.buys c.requires.side.0 _) (rw c.in-None.is at c.in_ok-key.ensures.told)

pub returns-in-None-clause-stands : goal.returns-in-None-clause-stands
returns-in-None-clause-stands g c =
    let goes = c.in_ok-key.ensures.goes_on in
    looked_stands (looked goes.shape goes.begins (returns-in-None-clause-told g c)) c.requires.stands
