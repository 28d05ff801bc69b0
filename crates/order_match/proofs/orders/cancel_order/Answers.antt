use Rattle.order_match.proofs.Common.{rules, goes_then, goes_as, leads_less, leads_some, turned, turn_then, turned_stands}
use Rattle.order_match.proofs.Calls.{good_parts, is_cancelled, not_cancelled, side_of_place}
use Rattle.order_match.proofs.orders.cancel_order.Goals as goal

pub cut_place-requires-clause-parts : goal.cut_place-requires-clause-parts
cut_place-requires-clause-parts g c = record { at = λ s fit. good_parts c.args.shape.now _ (c.requires.stands.at s fit) }

pub cut_on-requires-clause-side : goal.cut_on-requires-clause-side
cut_on-requires-clause-side g c =
    let goes = c.in_ok-place.ensures.goes_on in
    side_of_place c.args.shape.now c.args.number c.in-Some.place c.at-side.result.instrument c.at-side.result.buys
    c.at-side.ensures.number c.at-side.ensures.instrument
    (leads_some g.W.Words g.W.Shape.Shape goes.shape goes.begins (g.met.W.Words.fits c.cut_place.new.w goes.sound) c.requires.stands
    (rw c.in-Some.is at c.in_ok-place.ensures.cut))

pub returns-in_default : goal.returns-in_default
returns-in_default g c =
    let first = c.in_ok-place.ensures.goes_on in
    let did = leads_less g.W.Words g.W.Shape.Shape _ _ _ _ (not_cancelled c.args.shape.now c.args.number)
    (rw c.in_default.is at c.in_ok-place.ensures.cut) in
    record {
      cancelled = did;
      stands = turned_stands (turned first.shape first.begins did) c.requires.stands;
      goes_on = goes_as first (search rules);
    }

pub returns : goal.returns
returns g c =
    let first = c.in_ok-place.ensures.goes_on in
    let second = c.in_ok-cut_on.ensures.goes_on in
    let both = goes_then first second in
    let did = leads_less g.W.Words g.W.Shape.Shape _ _ _ _
    (λ x y. is_cancelled c.args.shape.now c.args.number x y c.in-Some.place c.at-side.result.instrument c.at-side.result.buys
    c.at-side.ensures.number c.at-side.ensures.instrument c.in_ok-cut_on.field-0)
    (turn_then second.shape second.begins (turned first.shape first.begins (rw c.in-Some.is at c.in_ok-place.ensures.cut))
    (rw c.key-key.ensures at c.in_ok-cut_on.ensures.cut)).leads in
    record {
      cancelled = rw c.unwrap_or-quantity.ensures did;
      stands = turned_stands (turned both.shape both.begins did) c.requires.stands;
      goes_on = goes_as both (search rules);
    }

pub returns-in_err-place-clause-goes_on : goal.returns-in_err-place-clause-goes_on
returns-in_err-place-clause-goes_on g c = goes_as c.in_err-place.ensures.goes_on (search rules)

pub returns-in_err-cut_on-clause-goes_on : goal.returns-in_err-cut_on-clause-goes_on
returns-in_err-cut_on-clause-goes_on g c = goes_as (goes_then c.in_ok-place.ensures.goes_on c.in_err-cut_on.ensures.goes_on) (search rules)
