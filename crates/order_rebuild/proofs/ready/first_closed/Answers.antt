use Rattle.order_rebuild.proofs.Common.{◌-◌, arith}
use Rattle.order_rebuild.proofs.ready.first_closed.Goals as goal

pub is_open-requires-clause-inside : goal.is_open-requires-clause-inside
is_open-requires-clause-inside c = let above = c.down-test.true in (c.down.invariant.own (c.down.at - 1) (omega arith)).0
