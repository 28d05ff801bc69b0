use Rattle.values_rule.proofs.Whole.Opening.{opening_holds}
use Rattle.values_rule.proofs.laws.opening.Goals as goal

pub returns : goal.returns
returns g c = λ shape. opening_holds (g.S.Shape.good shape)
