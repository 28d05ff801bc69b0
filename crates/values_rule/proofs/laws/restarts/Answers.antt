use Rattle.values_rule.proofs.StepKinds.Quiet.{restart_values}
use Rattle.values_rule.proofs.laws.restarts.Goals as goal

pub returns : goal.returns
returns g c = λ shape. restart_values (g.S.Shape.good shape)
