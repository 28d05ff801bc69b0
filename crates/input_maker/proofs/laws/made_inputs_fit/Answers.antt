use Rattle.input_maker.proofs.Fitting.{made_inputs_fit}
use Rattle.input_maker.proofs.laws.made_inputs_fit.Goals as goal

pub returns : goal.returns
returns c = made_inputs_fit
