use Rattle.order_rebuild.proofs.Common.{◌-◌, ◌≤◌, length, map, AreCut}
use Rattle.order_rebuild.proofs.lanes.cut.Given as goal

abbrev pub invariant-on : goal.invariant-on
invariant-on g l = record {
  inside : l.next ≤ length l.done;
  lanes : AreCut (map g.P.Placed.spot l.done) l.next l.lanes.items;
}

abbrev pub decreases-on : goal.decreases-on
decreases-on g l = length l.done - l.next
