use Rattle.record_text.proofs.Common.{◌≡◌, ◌++◌, take, string_bytes, flat_map}
use Rattle.record_text.specs.Output.{record_line}
use Rattle.record_text.proofs.report.write_records.Given as goal

-- the records before this one are written
abbrev pub invariant-loop-id : goal.invariant-loop-id
invariant-loop-id l = string_bytes l.text ≡ string_bytes l.fn.text ++ flat_map record_line (take l.id-index l.closing)
