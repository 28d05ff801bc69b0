use Rattle.std.proofs.Common.{◌≡◌, length, All}
use Rattle.order_text.specs.Ranges.{IsOrderOp}
use Rattle.stores_tests.proofs.orders.script_of.Given as goal

-- there are as many operations as were looked at, and their numbers are in range
abbrev pub invariant-loop-operation : goal.invariant-loop-operation
invariant-loop-operation g l = record {
  long : length l.script ≡ l.operation-index;
  each : All (IsOrderOp l.instruments) l.script;
}
