use Rattle.values_rule.proofs.StepKinds.Quiet.{quiet_values}
use Rattle.values_rule.proofs.laws.quiet.Goals as goal

pub returns : goal.returns
returns g c = λ shape. quiet_values (g.S.Shape.good shape)
