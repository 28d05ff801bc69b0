use Rattle.script_reader.proofs.Common.{◌≡◌, true, min, take, all_ascii_digits, digits_value}
use Rattle.script_reader.proofs.text.Tokens.Numerals.{greatest_u64}
use Rattle.script_reader.proofs.text.numbers.value_of.Given as goal

abbrev pub invariant-loop-b : goal.invariant-loop-b
invariant-loop-b l = (all_ascii_digits (take l.b-index l.word) ≡ true) × (l.value ≡ min (digits_value 10 (take l.b-index l.word)) greatest_u64)
