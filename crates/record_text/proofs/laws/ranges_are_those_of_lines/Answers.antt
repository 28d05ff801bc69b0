use Rattle.record_text.proofs.Inputs.{operation_in, operation_is}
use Rattle.record_text.proofs.laws.ranges_are_those_of_lines.Goals as goal

pub returns : goal.returns
returns c sizes o = (operation_in sizes o, operation_is sizes o)
