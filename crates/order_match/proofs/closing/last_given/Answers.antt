use Rattle.order_match.proofs.Common.{arith, leads_less, leads_some, looked, looked_stands}
use Rattle.order_match.proofs.Calls.{good_parts}
use Rattle.order_match.proofs.Lookups.{last_fits, tells_last}
use Rattle.order_match.proofs.closing.last_given.Goals as goal

pub last_number-requires-clause-parts : goal.last_number-requires-clause-parts
last_number-requires-clause-parts g c = record { at = λ s fit. good_parts c.args.shape.now _ (c.requires.stands.at s fit) }

pub returns-clause-told : goal.returns-clause-told
returns-clause-told g c = leads_less g.W.Words g.W.Shape.Shape _ _ _ _ (tells_last c.args.shape.now c.in_ok-last.last) c.in_ok-last.ensures.told

pub returns-clause-stands : goal.returns-clause-stands
returns-clause-stands g c =
    let goes = c.in_ok-last.ensures.goes_on in
    looked_stands (looked goes.shape goes.begins (returns-clause-told g c)) c.requires.stands

pub overflow_cast-result : goal.overflow_cast-result
overflow_cast-result g c =
    let goes = c.in_ok-last.ensures.goes_on in
    let some = leads_some g.W.Words g.W.Shape.Shape goes.shape goes.begins (g.met.W.Words.fits c.last_number.new.w goes.sound) c.requires.stands
    c.in_ok-last.ensures.told in
    omega (arith, last_fits c.args.shape.now c.in_ok-last.last some)
