use Rattle.order_rebuild.proofs.Common.{LockUse}
use Rattle.order_rebuild.proofs.Loops.{IsRisingBelow}
use Rattle.order_rebuild.proofs.turn.is_rising.Given as goal

abbrev pub invariant-loop-i : goal.invariant-loop-i
invariant-loop-i l = IsRisingBelow (λ (u : LockUse). u.lock) l.uses l.i
