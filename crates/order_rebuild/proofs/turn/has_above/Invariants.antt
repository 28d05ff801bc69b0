use Rattle.order_rebuild.proofs.Loops.{NoneAboveBelow}
use Rattle.order_rebuild.proofs.turn.has_above.Given as goal

abbrev pub invariant-loop-other : goal.invariant-loop-other
invariant-loop-other l = NoneAboveBelow l.uses l.lock l.least l.other-index
