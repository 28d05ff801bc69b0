use Rattle.order_match.proofs.Common.{◌<◌, arith, leads_when, turned, turn_then, HALF}
use Rattle.txn_stores.proofs.Turning.{in_some}
use Rattle.order_match.proofs.Calls.{good_parts}
use Rattle.order_match.proofs.Entering.{few_instruments, not_full, rests_both, rests_full, rests_not}
use Rattle.order_match.proofs.trading.put_order.Goals as goal

pub put_on-requires-clause-parts : goal.put_on-requires-clause-parts
put_on-requires-clause-parts g c = record { at = λ s fit. good_parts c.args.shape.now _ (c.requires.stands.at s fit) }

pub put_on-requires-clause-side : goal.put_on-requires-clause-side
put_on-requires-clause-side g c = rw c.of-side.ensures c.requires.instrument

-- the instrument's number is one of the most
pub place-place-requires-clause-instrument : goal.place-place-requires-clause-instrument
place-place-requires-clause-instrument g c =
    rw c.of-side.ensures
    (few_instruments c.args.shape.now c.args.order.now.instrument c.requires.instrument
    (in_some g.W.Words g.W.Shape.Shape c.args.w.now _ (g.met.W.Words.fits c.args.w.now c.requires.ready.sound) c.requires.stands))

pub returns-in-Full-clause-put : goal.returns-in-Full-clause-put
returns-in-Full-clause-put g c =
    let goes = c.in_ok-put_on.ensures.goes_on in
    leads_when g.W.Words g.W.Shape.Shape _ _ _ _ _ goes.begins c.requires.new
    (λ x y new. rests_not c.args.shape.now c.args.order.now c.requires.instrument c.requires.price (omega arith) x y new)
    (rw c.in-Full.is at rw c.of-side.ensures at rw c.key-key.ensures at c.in_ok-put_on.ensures.put)

pub returns-in-Full-2-clause-put : goal.returns-in-Full-2-clause-put
returns-in-Full-2-clause-put g c =
    let low : c.args.order.now.number < HALF = omega arith in
    let first = c.in_ok-put_on.ensures.goes_on in
    let second = c.in_ok-put_place.ensures.goes_on in
    let all = turn_then second.shape second.begins
    (turned first.shape first.begins (rw c.of-side.ensures at rw c.key-key.ensures at c.in_ok-put_on.ensures.put))
    (rw c.of-side.ensures at rw c.place-place.ensures at c.in_ok-put_place.ensures.put) in
    leads_when g.W.Words g.W.Shape.Shape _ _ _ _ _ all.begins c.requires.new
    (λ x y new t. rests_full c.args.shape.now c.args.order.now c.requires.instrument c.requires.price low x y new
    c.in_ok-put_on.field-0 c.in_ok-put_place.field-0 c.in_default.not-Full t c.in-Full-2.is)
    all.leads

pub returns-in-New-clause-put : goal.returns-in-New-clause-put
returns-in-New-clause-put g c =
    let low : c.args.order.now.number < HALF = omega arith in
    let first = c.in_ok-put_on.ensures.goes_on in
    let second = c.in_ok-put_place.ensures.goes_on in
    let all = turn_then second.shape second.begins
    (turned first.shape first.begins (rw c.of-side.ensures at rw c.key-key.ensures at c.in_ok-put_on.ensures.put))
    (rw c.of-side.ensures at rw c.place-place.ensures at c.in_ok-put_place.ensures.put) in
    leads_when g.W.Words g.W.Shape.Shape _ _ _ _ _ all.begins c.requires.new
    (λ x y new t. rests_both c.args.shape.now c.args.order.now c.requires.instrument c.requires.price low x y new
    c.in_ok-put_on.field-0 c.in_ok-put_place.field-0 c.in_default.not-Full t (not_full c.in_ok-put_place.field-0 c.in-New.is))
    all.leads
