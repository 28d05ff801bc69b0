-- The words of faults.
use Rattle.std.specs.Prelude.{ℕ, List, ◌++◌, codes}
use Rattle.std.specs.Fmt.{decimal}
use Rattle.script_reader.specs.declared.fault.Fault.{Fault}
use Rattle.script_reader.specs.declared.fault.Fault.TheVariants as fault
use Rattle.script_reader.specs.declared.fault.InputFault.{InputFault}
use Rattle.script_reader.specs.declared.fault.InputFault.TheVariants as input_fault

-- the word of what is wrong with a line
abbrev pub fault_word : Fault → List ℕ
fault_word fault.Header = codes "header"
fault_word fault.Number = codes "number"
fault_word fault.Word = codes "word"
fault_word fault.Order = codes "order"
fault_word fault.Limit = codes "limit"
fault_word fault.Account = codes "account"
fault_word fault.Price = codes "price"
fault_word fault.Blocks = codes "blocks"
fault_word fault.End = codes "end"

-- the words of why no input was read: the line's number, and what is wrong with it
abbrev pub input_fault_words : InputFault → List ℕ
input_fault_words (input_fault.Line line why) = codes "line " ++ decimal line ++ codes " " ++ fault_word why
input_fault_words input_fault.OutOfMemory = codes "out of memory"
