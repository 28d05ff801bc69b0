use Rattle.values_rule.proofs.StepKinds.Same.{aside_values}
use Rattle.values_rule.proofs.laws.aside.Goals as goal

pub returns : goal.returns
returns g c = λ shape. aside_values (g.S.Shape.good shape)
