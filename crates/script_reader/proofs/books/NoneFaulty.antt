-- Lines of books and scripts without a fault.
use Rattle.script_reader.proofs.Common.{HaveNoFault, Words, fault_of}
use Rattle.std.specs.Prelude.{List}

-- no line of a list is faulty beside the lines before it and those of the list ahead of it, and none is the last of a
-- text
abbrev pub AreFaultless : List Words → List Words → Type 0
AreFaultless = HaveNoFault fault_of
