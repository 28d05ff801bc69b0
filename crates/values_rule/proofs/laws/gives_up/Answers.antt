use Rattle.values_rule.proofs.StepKinds.GivingUp.{giving_up_values}
use Rattle.values_rule.proofs.laws.gives_up.Goals as goal

pub returns : goal.returns
returns g c = λ shape. giving_up_values (g.S.Shape.good shape)
