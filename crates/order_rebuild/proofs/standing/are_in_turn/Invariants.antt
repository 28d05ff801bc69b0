use Rattle.order_rebuild.proofs.Common.{map}
use Rattle.order_rebuild.proofs.Stands.{AreInTurnBelow}
use Rattle.order_rebuild.proofs.standing.are_in_turn.Given as goal

abbrev pub invariant-loop-p : goal.invariant-loop-p
invariant-loop-p g l = AreInTurnBelow (map g.P.Placed.spot l.done) l.p
