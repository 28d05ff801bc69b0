use Rattle.values_rule.proofs.Whole.Undone.{undoing_restores}
use Rattle.values_rule.proofs.laws.undoing_restores.Goals as goal

pub returns : goal.returns
returns g c = λ shape. undoing_restores (g.S.Shape.good shape)
