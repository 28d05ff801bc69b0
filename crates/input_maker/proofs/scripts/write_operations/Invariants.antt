use Rattle.input_maker.proofs.Common.{◌≡◌, ◌++◌, string_bytes, operation_lines, operations_from, state_after_operations}
use Rattle.input_maker.proofs.scripts.write_operations.Given as goal

-- the operations up to this place are drawn and written
abbrev pub invariant-loop-place : goal.invariant-loop-place
invariant-loop-place l = record {
  state : l.generator.state ≡ state_after_operations l.place l.fn.generator.state;
  text : string_bytes l.text ≡ string_bytes l.fn.text ++ operation_lines (operations_from l.kind l.fn.generator.state l.place);
}
