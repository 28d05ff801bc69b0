use Rattle.order_rebuild.proofs.Common.{GainTurns}
use Rattle.order_rebuild.proofs.lines.push_turns.Given as goal

abbrev pub invariant-loop-i : goal.invariant-loop-i
invariant-loop-i l = GainTurns l.uses l.item l.i l.initial.turns.items l.turns.items
