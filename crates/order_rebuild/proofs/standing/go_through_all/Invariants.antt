use Rattle.order_rebuild.proofs.Common.{map}
use Rattle.order_rebuild.proofs.Stands.{AreBehind}
use Rattle.order_rebuild.proofs.standing.go_through_all.Given as goal

abbrev pub invariant-loop-p : goal.invariant-loop-p
invariant-loop-p g l = AreBehind (map g.P.Placed.spot l.done) l.p l.versions
