use Rattle.order_rebuild.proofs.Common.{map}
use Rattle.order_rebuild.proofs.Marks.{count_open}
use Rattle.order_rebuild.proofs.Placings.{IsPlacing}
use Rattle.order_rebuild.proofs.tallied.place_all.Given as goal

abbrev pub invariant-all : goal.invariant-all
invariant-all g l = IsPlacing (map g.P.Placed.spot l.done) l.rows l.left l.tallies l.lanes l.known l.out.items l.from

abbrev pub decreases-all : goal.decreases-all
decreases-all g l = count_open l.left
