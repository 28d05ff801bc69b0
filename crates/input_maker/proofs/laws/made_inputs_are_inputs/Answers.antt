use Rattle.input_maker.proofs.Calling.{made_inputs}
use Rattle.input_maker.proofs.laws.made_inputs_are_inputs.Goals as goal

pub returns : goal.returns
returns c = made_inputs
