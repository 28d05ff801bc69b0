use Rattle.values_rule.proofs.StepKinds.LockKinds.{set_read_bit_values}
use Rattle.values_rule.proofs.laws.set_read_bit.Goals as goal

pub returns : goal.returns
returns g c = λ shape. set_read_bit_values (g.S.Shape.good shape)
