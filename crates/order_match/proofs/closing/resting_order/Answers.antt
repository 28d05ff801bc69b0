use Rattle.order_match.proofs.Common.{rules, goes_then, goes_as, leads_less, leads_some, looked, look_then, looked_stands}
use Rattle.order_match.proofs.Calls.{good_parts, looks_for_none, looks_for_one, side_of_look}
use Rattle.order_match.proofs.closing.resting_order.Goals as goal

pub place_of-requires-clause-parts : goal.place_of-requires-clause-parts
place_of-requires-clause-parts g c = record { at = λ s fit. good_parts c.args.shape.now _ (c.requires.stands.at s fit) }

pub quantity_on-requires-clause-side : goal.quantity_on-requires-clause-side
quantity_on-requires-clause-side g c =
    let goes = c.in_ok-place.ensures.goes_on in
    side_of_look c.args.shape.now c.args.number c.in-Some.place c.at-side.result.instrument c.at-side.result.buys
    c.at-side.ensures.number c.at-side.ensures.instrument
    (leads_some g.W.Words g.W.Shape.Shape goes.shape goes.begins (g.met.W.Words.fits c.place_of.new.w goes.sound) c.requires.stands
    (rw c.in-Some.is at c.in_ok-place.ensures.told))

pub returns-in_default : goal.returns-in_default
returns-in_default g c =
    let first = c.in_ok-place.ensures.goes_on in
    let told = leads_less g.W.Words g.W.Shape.Shape _ _ _ _ (looks_for_none c.args.shape.now c.args.number)
    (rw c.in_default.is at c.in_ok-place.ensures.told) in
    record {
      told = told;
      stands = looked_stands (looked first.shape first.begins told) c.requires.stands;
      goes_on = goes_as first (search rules);
    }

pub returns : goal.returns
returns g c =
    let first = c.in_ok-place.ensures.goes_on in
    let second = c.in_ok-quantity.ensures.goes_on in
    let both = goes_then first second in
    let told = leads_less g.W.Words g.W.Shape.Shape _ _ _ _
    (λ x y. looks_for_one c.args.shape.now c.args.number x y c.in-Some.place c.at-side.result.instrument c.at-side.result.buys
    c.at-side.ensures.number c.at-side.ensures.instrument c.in_ok-quantity.quantity)
    (look_then second.shape second.begins (looked first.shape first.begins (rw c.in-Some.is at c.in_ok-place.ensures.told))
    (rw c.key.ensures at c.in_ok-quantity.ensures.told)).leads in
    record {
      told = rw c.unwrap_or.ensures told;
      stands = looked_stands (looked both.shape both.begins told) c.requires.stands;
      goes_on = goes_as both (search rules);
    }

pub returns-in_err-place-clause-goes_on : goal.returns-in_err-place-clause-goes_on
returns-in_err-place-clause-goes_on g c = goes_as c.in_err-place.ensures.goes_on (search rules)

pub returns-in_err-quantity-clause-goes_on : goal.returns-in_err-quantity-clause-goes_on
returns-in_err-quantity-clause-goes_on g c = goes_as (goes_then c.in_ok-place.ensures.goes_on c.in_err-quantity.ensures.goes_on) (search rules)
