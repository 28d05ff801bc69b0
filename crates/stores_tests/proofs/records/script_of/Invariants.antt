use Rattle.std.proofs.Common.{◌≡◌, length, All}
use Rattle.record_text.specs.Ranges.{IsRecordOp}
use Rattle.stores_tests.proofs.records.script_of.Given as goal

-- there are as many operations as were looked at, and their numbers are in range
abbrev pub invariant-loop-operation : goal.invariant-loop-operation
invariant-loop-operation g l = record {
  long : length l.script ≡ l.operation-index;
  each : All IsRecordOp l.script;
}
