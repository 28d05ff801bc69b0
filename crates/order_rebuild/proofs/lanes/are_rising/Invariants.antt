use Rattle.order_rebuild.proofs.Common.{Lane}
use Rattle.order_rebuild.proofs.Loops.{IsRisingBelow}
use Rattle.order_rebuild.proofs.lanes.are_rising.Given as goal

abbrev pub invariant-loop-i : goal.invariant-loop-i
invariant-loop-i l = IsRisingBelow (λ (lane : Lane). lane.caller) l.lanes l.i
