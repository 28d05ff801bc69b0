use Rattle.order_rebuild.proofs.Common.{◌≡◌, ℕ, ◌≤◌, List, length, map, slice_get, slice_index, Some, refl, subst, arith, length-map, slice_get_read}
use Rattle.order_rebuild.proofs.Common.{slice_get_within, at_map, LockUse, IsPast}
use Rattle.order_rebuild.proofs.Stands.{behind_more}
use Rattle.order_rebuild.proofs.standing.go_through_all.Goals as goal

pub loop-p-preserved : goal.loop-p-preserved
loop-p-preserved g c =
    let spot = g.P.Placed.spot in let done = c.args.done.now in let p : ℕ = c.loop-p.p in
    let x = c.index-done-p.result in let e = c.in_ok-go_through.ensures in
    let old : List ℕ = c.loop-p.versions in let new : List ℕ = c.go_through.new.versions in
    behind_more (map spot done) p (spot x) old new (at_map spot done p x (slice_get_read done (length done) p x refl c.loop-p-test.true c.index-done-p.is))
    c.loop-p.invariant e.rises
    (subst (λ (us : List LockUse). (j : ℕ) (u : LockUse) → slice_get us j ≡ Some u → slice_index old u.lock ≤ u.version) c.uses.ensures e.found)
    (subst (λ (us : List LockUse). (j : ℕ) (u : LockUse) → slice_get us j ≡ Some u → IsPast new u) c.uses.ensures e.past)

pub returns : goal.returns
returns g c = λ p q x y ex ey lt. c.loop-p.invariant.keep p q x y ex ey lt
    (let w = slice_get_within (map g.P.Placed.spot c.args.done.now) q y ey in
    omega (arith, w, c.loop-p-test.false, c.loop-p.auto.p-end, length-map c.args.done.now g.P.Placed.spot))
