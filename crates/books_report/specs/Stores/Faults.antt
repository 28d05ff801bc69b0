-- The faults of texts whose scripts are lists of operations.
use Rattle.script_reader.specs.declared.fault.Fault.{Fault}
use Rattle.script_reader.specs.declared.fault.Fault.TheVariants as fault

-- the reasons that a fault of such a text can have
abbrev pub IsListReason : Fault → Type 0
IsListReason fault.End = Unit {0}
IsListReason fault.Header = Unit {0}
IsListReason fault.Word = Unit {0}
IsListReason fault.Number = Unit {0}
IsListReason fault.Limit = Unit {0}
IsListReason _ = ⊥
