use Rattle.order_text.proofs.Inputs.{operation_in, operation_is}
use Rattle.order_text.proofs.laws.ranges_are_those_of_lines.Goals as goal

pub returns : goal.returns
returns c blocks instruments o range = (operation_in blocks instruments o range.1, operation_is blocks instruments o)
