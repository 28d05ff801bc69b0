use Rattle.order_rebuild.proofs.Common.{◌<◌}
use Rattle.std.proofs.Common.{◌^◌}
use Rattle.order_rebuild.specs.Turns.{HasKey}
use Rattle.order_rebuild.proofs.Loops.{IsLeastBelow}
use Rattle.order_rebuild.proofs.turn.least_key.Given as goal

abbrev pub invariant-loop-other : goal.invariant-loop-other
invariant-loop-other l = record { has : HasKey l.uses l.lock l.least; below : IsLeastBelow l.uses l.lock l.least l.other-index; fits : l.least < 2 ^ 65 }
