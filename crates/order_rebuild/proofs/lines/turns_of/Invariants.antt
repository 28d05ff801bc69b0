use Rattle.order_rebuild.proofs.Common.{map, AreTurns}
use Rattle.order_rebuild.proofs.lines.turns_of.Given as goal

abbrev pub invariant-loop-p : goal.invariant-loop-p
invariant-loop-p g l = AreTurns (map g.P.Placed.spot l.done) l.p l.turns.items
