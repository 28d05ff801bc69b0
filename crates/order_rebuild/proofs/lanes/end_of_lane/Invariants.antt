use Rattle.order_rebuild.proofs.Common.{◌≡◌, ℕ, ◌-◌, ◌<◌, map, slice_get, Some, Spot}
use Rattle.order_rebuild.proofs.lanes.end_of_lane.Given as goal

abbrev pub invariant-loop-p : goal.invariant-loop-p
invariant-loop-p g l = (p : ℕ) (x y : Spot) → l.start < p → p < l.p → slice_get (map g.P.Placed.spot l.done) (p - 1) ≡ Some x
    → slice_get (map g.P.Placed.spot l.done) p ≡ Some y → (x.caller ≡ y.caller) × (x.index < y.index)
