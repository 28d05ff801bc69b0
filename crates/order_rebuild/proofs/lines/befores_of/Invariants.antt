use Rattle.order_rebuild.proofs.Common.{◌≡◌, length, AreChains}
use Rattle.order_rebuild.proofs.lines.befores_of.Given as goal

abbrev pub invariant-loop-i : goal.invariant-loop-i
invariant-loop-i l = record { long : length l.last ≡ length l.initial.last; chains : AreChains l.item l.i (length l.initial.last) l.before.items l.last }
