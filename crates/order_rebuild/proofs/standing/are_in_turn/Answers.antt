use Rattle.order_rebuild.proofs.Common.{ℕ, ◌-◌, length, map, refl, arith, length-map, slice_get_read, slice_get_within, at_map}
use Rattle.order_rebuild.proofs.Stands.{turn_more}
use Rattle.order_rebuild.proofs.standing.are_in_turn.Goals as goal

pub loop-p-preserved : goal.loop-p-preserved
loop-p-preserved g c =
    let spot = g.P.Placed.spot in let done = c.args.done.now in let p : ℕ = c.loop-p.p in
    let x = c.index-done-p.result in let y = c.index-done-p-in-loop-p.result in
    turn_more (map spot done) p (spot x) (spot y) (omega (arith, c.loop-p.auto.p))
    (at_map spot done (p - 1) x (slice_get_read done (length done) (p - 1) x refl (omega (arith, c.loop-p-test.true)) c.index-done-p.is))
    (at_map spot done p y (slice_get_read done (length done) p y refl c.loop-p-test.true c.index-done-p-in-loop-p.is))
    (c.is_behind.ensures c.if-not-is_behind.false) c.loop-p.invariant

pub returns : goal.returns
returns g c = λ t p q x y ex ey lt. c.loop-p.invariant p q x y ex ey lt
    (let w = slice_get_within (map g.P.Placed.spot c.args.done.now) q y ey in
    omega (arith, w, c.loop-p-test.false, c.loop-p.auto.p-end, length-map c.args.done.now g.P.Placed.spot))
