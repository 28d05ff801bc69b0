use Rattle.order_rebuild.proofs.Common.{if◌then◌else◌, ◌≡◌, ℕ, ◌+◌, Bool, true, false, ◌⊎◌, List, [], ◌∷◌, ◌++◌, length, map, slice_get, get_or, slice_set}
use Rattle.order_rebuild.proofs.Common.{Some, refl, sym, ap, ◌∙◌, subst, arith, get_or-set_same, length-map, slice_get_read, slice_get_within}
use Rattle.order_rebuild.proofs.Common.{get_or_from_slice_get, at_map, LockUse, Spot, shorter, IsStep, row_at, version_at, left_at, Lane, Tally}
use Rattle.order_rebuild.proofs.Codes.{same_there}
use Rattle.order_rebuild.proofs.Marks.{count-set}
use Rattle.order_rebuild.proofs.Placings.{IsPlacing, placing_first, known_again, mark, spot, placing_after, placed_order}
use Rattle.order_rebuild.proofs.Steps.{gone_after}
use Rattle.order_rebuild.proofs.tallied.place_all.Goals as goal

abbrev no_lane : Lane
no_lane = record { caller = 0; next = 0; end = 0 }

pub all-init : goal.all-init
all-init g c = let list = map g.P.Placed.spot c.args.done.now in let r = c.requires in
    placing_first list c.args.rows.now (length c.args.done.now) c.args.left.now c.args.tallies.now c.args.lanes.now c.args.known.now
    c.args.out.now.items (sym (length-map c.args.done.now g.P.Placed.spot)) r.left r.fresh r.open r.out r.lanes

pub all-smaller : goal.all-smaller
all-smaller g c =
    let list = map g.P.Placed.spot c.args.done.now in let rows = c.args.rows.now in
    let lanes : List Lane = c.all.lanes in let at : ℕ = c.in-Some.at in
    let goes = c.in-Some.ensures.some at refl in let lane : Lane = goes.0 in
    let p_is : c.take_first-p.result ≡ lane.next =
    c.take_first-p.ensures.is ∙ ap (λ (x : Lane). x.next) (get_or_from_slice_get lanes at lane no_lane goes.1) in
    let is = mark list rows c.all.left c.all.tallies lanes c.all.known c.all.out.items c.all.from c.all.invariant at lane goes.1 goes.2 in
    count-set c.all.left c.take_first-p.result (subst (λ (k : ℕ). slice_get c.all.left k ≡ Some true) (sym p_is) is)

pub all-preserved : goal.all-preserved
all-preserved g c =
    let list : List Spot = map g.P.Placed.spot c.args.done.now in let rows = c.args.rows.now in
    let lanes : List Lane = c.all.lanes in let at : ℕ = c.in-Some.at in let left : List Bool = c.all.left in
    let out : List ℕ = c.all.out.items in let from : ℕ = c.all.from in let tallies : List Tally = c.all.tallies in
    let known : List ℕ = c.first_open.new.known in let now : List Tally = c.place_uses.new.tallies in
    let goes = c.in-Some.ensures.some at refl in let lane : Lane = goes.0 in
    let lane_is : get_or lanes at no_lane ≡ lane = get_or_from_slice_get lanes at lane no_lane goes.1 in
    let p : ℕ = c.take_first-p.result in
    let p_is : p ≡ lane.next = c.take_first-p.ensures.is ∙ ap (λ (x : Lane). x.next) lane_is in
    let short : c.take_first-p.new.lane ≡ shorter lane = c.take_first-p.ensures.lane ∙ ap shorter lane_is in
    let state = known_again list rows left tallies lanes c.all.known known out from c.all.invariant c.in-Some.ensures.count c.in-Some.ensures.known in
    let there = spot list rows left tallies lanes known out from state at lane goes.1 goes.2 in
    let item = c.index-done-p.result in
    let item_at : slice_get list lane.next ≡ Some (g.P.Placed.spot item) = ap (λ (k : ℕ). slice_get list k) (sym p_is)
    ∙ at_map g.P.Placed.spot c.args.done.now p item (slice_get_read c.args.done.now (length c.args.done.now) p item refl
    (let w = slice_get_within list lane.next there.0 there.1 in omega (arith, w, p_is, length-map c.args.done.now g.P.Placed.spot)) c.index-done-p.is) in
    let same : c.uses.result.now ≡ there.0.uses =
    c.uses.ensures ∙ ap (λ (s : Spot). s.uses) (same_there list lane.next (g.P.Placed.spot item) there.0 item_at there.1) in
    let e = c.in_ok-place_uses.ensures in
    let next : ℕ = c.first_with_items-from.result in
    let left_is : get_or (slice_set lanes at c.take_first-p.new.lane) at no_lane ≡ shorter lane =
    get_or-set_same lanes at c.take_first-p.new.lane no_lane (slice_get_within lanes at lane goes.1) ∙ short in
    let gone = gone_after list left lanes state.lanes_are at lane goes.1 goes.2 from (c.in-Some.ensures.low at refl) state.gone next
    (subst (λ (x : Lane). (next ≡ from) ⊎ ((next ≡ from + 1) × (at ≡ from) × (x.next ≡ x.end))) left_is c.first_with_items-from.ensures) in
    let base = placing_after list rows left tallies lanes known out from state at lane goes.1 goes.2
    (λ is. c.in-Some.ensures.may at lane refl goes.1 (c.all.invariant.known_are is))
    (λ is i x a b f m. c.in-Some.ensures.first at i x refl a b (c.all.invariant.known_are is) f m) now e.count
    (subst (λ (us : List LockUse). IsStep us (row_at rows) (version_at tallies) (left_at tallies) (version_at now) (left_at now)) same e.step)
    next gone in
    let pushed : c.push.new.self.items ≡ out ++ p ∷ [] =
    c.push.ensures.items ∙ ap (λ (b : Bool). if b then (out ++ p ∷ []) else out) (sym c.in_ok-ok.ensures.variant) in
    let one = subst (λ (q : ℕ). IsPlacing list rows (slice_set left q false) now (slice_set lanes at (shorter lane)) (slice_set known at 0)
    (out ++ q ∷ []) next) (sym p_is) base in
    let two = subst (λ (x : Lane).
    IsPlacing list rows (slice_set left p false) now (slice_set lanes at x) (slice_set known at 0) (out ++ p ∷ []) next) (sym short) one in
    subst (λ (o : List ℕ).
    IsPlacing list rows (slice_set left p false) now (slice_set lanes at c.take_first-p.new.lane) (slice_set known at 0) o next) (sym pushed) two

pub returns : goal.returns
returns g c =
    let i = c.all.invariant in
    placed_order (map g.P.Placed.spot c.args.done.now) c.args.rows.now c.all.left c.all.tallies c.all.out.items i.rest i.tallied i.each
    (c.are_placed.ensures c.if-not-are_placed.false)
