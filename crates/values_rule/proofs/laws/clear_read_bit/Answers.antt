use Rattle.values_rule.proofs.StepKinds.LockKinds.{clear_read_bit_values}
use Rattle.values_rule.proofs.laws.clear_read_bit.Goals as goal

pub returns : goal.returns
returns g c = λ shape. clear_read_bit_values (g.S.Shape.good shape)
