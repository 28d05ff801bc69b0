use Rattle.order_rebuild.proofs.Common.{MayUseBelow}
use Rattle.order_rebuild.proofs.tallied.is_due.Given as goal

abbrev pub invariant-loop-i : goal.invariant-loop-i
invariant-loop-i l = record {
  below : MayUseBelow l.tallies l.uses l.initial.known → MayUseBelow l.tallies l.uses l.i;
  known : MayUseBelow l.tallies l.uses l.initial.known → MayUseBelow l.tallies l.uses l.known;
}
