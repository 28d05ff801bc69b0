use Rattle.order_rebuild.proofs.Common.{if◌then◌else◌, Bool, ◌≡◌, ℕ, ◌++◌, [], ◌∷◌, List, length, map, slice_get, Some, refl, sym, ap, ◌∙◌, subst, arith}
use Rattle.order_rebuild.proofs.Common.{option_map, length-map, slice_get-map, slice_get_read, Spot, IsLane, AreCut, Lane}
use Rattle.order_rebuild.proofs.Callers.{cut_more, lane_from}
use Rattle.order_rebuild.proofs.lanes.cut.Goals as goal

pub on-preserved : goal.on-preserved
on-preserved g c =
    let list : List Spot = map g.P.Placed.spot c.args.done.now in
    let start : ℕ = c.on.next in let end : ℕ = c.end_of_lane-end.result in
    let s : Spot = g.P.Placed.spot c.index-done-next.result in
    let here : slice_get c.args.done.now start ≡ Some c.index-done-next.result =
    slice_get_read c.args.done.now (length c.args.done.now) start c.index-done-next.result refl c.on-test.true c.index-done-next.is in
    let at : slice_get list start ≡ Some s = slice_get-map g.P.Placed.spot c.args.done.now start ∙ ap (option_map g.P.Placed.spot) here in
    let e = c.end_of_lane-end.ensures in
    let size : length list ≡ length c.args.done.now = length-map c.args.done.now g.P.Placed.spot in
    let from = lane_from list start end e.above (omega (arith, size, e.inside)) e.steps s at in
    let lanes : List Lane = c.on.lanes.items in
    let lane : Lane = record { caller = c.caller-caller.result; next = start; end = end } in
    let is : IsLane list lane = subst (λ (k : ℕ). IsLane list (record { caller = k; next = start; end = end })) (sym c.caller-caller.ensures) from in
    let pushed : c.push.new.self.items ≡ lanes ++ lane ∷ [] =
    c.push.ensures.items ∙ ap (λ (b : Bool). if b then (lanes ++ lane ∷ []) else lanes) (sym c.in_ok-ok.ensures.variant) in record {
      inside = e.inside;
      lanes = subst (AreCut list end) (sym pushed) (cut_more list start lanes lane c.on.invariant.lanes is refl);
    }
