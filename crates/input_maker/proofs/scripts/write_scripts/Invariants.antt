use Rattle.input_maker.proofs.Common.{◌≡◌, ◌++◌, string_bytes, flat_map, submission_lines, state_of_script, submissions_to}
use Rattle.input_maker.proofs.scripts.write_scripts.Given as goal

-- the scripts up to this place are drawn and written
abbrev pub invariant-loop-place : goal.invariant-loop-place
invariant-loop-place l = record {
  state : l.generator.state ≡ state_of_script l.seed l.place;
  text : string_bytes l.text ≡ string_bytes l.fn.text ++ flat_map submission_lines (submissions_to l.seed l.callers l.place);
}
