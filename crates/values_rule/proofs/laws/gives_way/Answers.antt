use Rattle.values_rule.proofs.StepKinds.Giving.{giving_way_values}
use Rattle.values_rule.proofs.laws.gives_way.Goals as goal

pub returns : goal.returns
returns g c = λ shape. giving_way_values (g.S.Shape.good shape)
