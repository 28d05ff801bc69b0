use Rattle.order_rebuild.proofs.Common.{slice_index, AreStarts}
use Rattle.order_rebuild.proofs.Makes.{IsRun}
use Rattle.order_rebuild.proofs.lines.firsts_of.Given as goal

abbrev pub invariant-loop-i : goal.invariant-loop-i
invariant-loop-i l = record {
  starts : AreStarts (λ i. slice_index l.codes i) l.i l.first.items;
  run : IsRun (λ i. slice_index l.codes i) l.i l.start;
}
