use Rattle.order_match.proofs.Common.{Some, None, not, ap, refl, sym, ◌∙◌, leads_less, leads_some, looked, looked_stands, Side}
use Rattle.order_match.proofs.Calls.{good_parts}
use Rattle.order_match.proofs.Entering.{looks_as, partner_none, partner_range, partner_some}
use Rattle.order_match.proofs.trading.first_partner.Goals as goal

abbrev turned_side : Side → Side
turned_side s = record { instrument = s.instrument; buys = not s.buys }

pub first_on-requires-clause-parts : goal.first_on-requires-clause-parts
first_on-requires-clause-parts g c = record { at = λ s fit. good_parts c.args.shape.now _ (c.requires.stands.at s fit) }

pub first_on-requires-clause-side : goal.first_on-requires-clause-side
first_on-requires-clause-side g c = rw (c.other-side.ensures, c.of.ensures) c.requires.instrument

pub returns-in_default-clause-told : goal.returns-in_default-clause-told
returns-in_default-clause-told g c =
    leads_less g.W.Words g.W.Shape.Shape _ _ _ _
    (looks_as c.args.shape.now c.args.order.now c.requires.instrument.0 c.other-side.result (c.other-side.ensures ∙ ap turned_side c.of.ensures) None None refl)
    (rw c.in_default.is at c.in_ok-key.ensures.told)

pub returns-in_default-clause-stands : goal.returns-in_default-clause-stands
returns-in_default-clause-stands g c =
    let goes = c.in_ok-key.ensures.goes_on in
    looked_stands (looked goes.shape goes.begins (returns-in_default-clause-told g c)) c.requires.stands

pub returns-then-allows-clause-told : goal.returns-then-allows-clause-told
returns-then-allows-clause-told g c =
    leads_less g.W.Words g.W.Shape.Shape _ _ _ _
    (looks_as c.args.shape.now c.args.order.now c.requires.instrument.0 c.other-side.result (c.other-side.ensures ∙ ap turned_side c.of.ensures)
    (Some (c.in-Some.key, c.in-Some.quantity)) _
    (partner_some c.args.order.now c.in-Some.key c.in-Some.quantity c.number_of.result c.price-price.result c.other-side.result
    (c.other-side.ensures ∙ ap turned_side c.of.ensures) c.price-price.ensures.value c.number_of.ensures (sym c.allows.ensures ∙ c.if-allows.true)))
    (rw c.in-Some.is at c.in_ok-key.ensures.told)

pub returns-then-allows-clause-stands : goal.returns-then-allows-clause-stands
returns-then-allows-clause-stands g c =
    let goes = c.in_ok-key.ensures.goes_on in
    looked_stands (looked goes.shape goes.begins (returns-then-allows-clause-told g c)) c.requires.stands

pub returns-then-allows-clause-range : goal.returns-then-allows-clause-range
returns-then-allows-clause-range g c =
    let goes = c.in_ok-key.ensures.goes_on in
    partner_range c.args.shape.now c.args.order.now _
    (leads_some g.W.Words g.W.Shape.Shape goes.shape goes.begins (g.met.W.Words.fits c.first_on.new.w goes.sound) c.requires.stands
    (returns-then-allows-clause-told g c))

pub returns-else-allows-clause-told : goal.returns-else-allows-clause-told
returns-else-allows-clause-told g c =
    leads_less g.W.Words g.W.Shape.Shape _ _ _ _
    (looks_as c.args.shape.now c.args.order.now c.requires.instrument.0 c.other-side.result (c.other-side.ensures ∙ ap turned_side c.of.ensures)
    (Some (c.in-Some.key, c.in-Some.quantity)) None
    (partner_none c.args.order.now c.in-Some.key c.in-Some.quantity 0 c.price-price.result c.other-side.result
    (c.other-side.ensures ∙ ap turned_side c.of.ensures) c.price-price.ensures.value (sym c.allows.ensures ∙ c.if-allows.false)))
    (rw c.in-Some.is at c.in_ok-key.ensures.told)

pub returns-else-allows-clause-stands : goal.returns-else-allows-clause-stands
returns-else-allows-clause-stands g c =
    let goes = c.in_ok-key.ensures.goes_on in
    looked_stands (looked goes.shape goes.begins (returns-else-allows-clause-told g c)) c.requires.stands
