use Rattle.order_rebuild.proofs.Common.{◌≡◌, ℕ, List, map, slice_get, slice_index_or, Some, ap, ◌∙◌, subst, arith, slice_get-get_or, MayStart, Lane}
use Rattle.order_rebuild.proofs.Codes.{same_there}
use Rattle.order_rebuild.proofs.Knows.{known_set}
use Rattle.order_rebuild.proofs.tallied.first_open.Goals as goal

abbrev no_lane : Lane
no_lane = record { caller = 0; next = 0; end = 0 }

some_is : {a b : ℕ} → Some a ≡ Some b → a ≡ b
some_is e = cc

pub returns-then-may_start-clause-known : goal.returns-then-may_start-clause-known
returns-then-may_start-clause-known g c = λ known.
    let lanes : List Lane = c.args.lanes.now in let at : ℕ = c.loop-at.at in
    let here : slice_get lanes at ≡ Some (slice_index_or lanes at no_lane) = slice_get-get_or lanes at no_lane c.loop-at-test.true in
    let are = c.loop-at.invariant.known known in
    known_set (map g.P.Placed.spot c.args.done.now) c.args.tallies.now lanes c.loop-at.known at c.may_start.new.known (slice_index_or lanes at no_lane)
    (omega (arith, c.loop-at-test.true, c.loop-at.invariant.count)) here
    (c.may_start.ensures.known (are at (slice_index_or lanes at no_lane) here)) are

pub returns-then-may_start-clause-some : goal.returns-then-may_start-clause-some
returns-then-may_start-clause-some g c = λ a e.
    let lanes : List Lane = c.args.lanes.now in let at : ℕ = c.loop-at.at in (
      slice_index_or lanes at no_lane,
      subst (λ (k : ℕ). slice_get lanes k ≡ Some (slice_index_or lanes at no_lane)) (some_is e)
          (slice_get-get_or lanes at no_lane c.loop-at-test.true),
      c.may_start.ensures.some c.if-may_start.true,
    )

pub returns-then-may_start-clause-may : goal.returns-then-may_start-clause-may
returns-then-may_start-clause-may g c = λ a lane e f known.
    let lanes : List Lane = c.args.lanes.now in let at : ℕ = c.loop-at.at in
    let here : slice_get lanes at ≡ Some (slice_index_or lanes at no_lane) = slice_get-get_or lanes at no_lane c.loop-at-test.true in
    let is : slice_index_or lanes at no_lane ≡ lane =
    same_there lanes at (slice_index_or lanes at no_lane) lane here (ap (λ (k : ℕ). slice_get lanes k) (some_is e) ∙ f) in
    subst (MayStart (map g.P.Placed.spot c.args.done.now) c.args.tallies.now) is
    ((c.may_start.ensures.is (c.loop-at.invariant.known known at (slice_index_or lanes at no_lane) here)).0 c.if-may_start.true)

pub returns-then-may_start-clause-first : goal.returns-then-may_start-clause-first
returns-then-may_start-clause-first g c = λ a i lane e low lt known f may.
    let same = some_is e in c.loop-at.invariant.none i lane low (omega (arith, same, lt)) known f may

pub returns-clause-known : goal.returns-clause-known
returns-clause-known g c = c.loop-at.invariant.known
