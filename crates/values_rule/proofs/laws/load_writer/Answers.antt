use Rattle.values_rule.proofs.StepKinds.LockKinds.{load_writer_values}
use Rattle.values_rule.proofs.laws.load_writer.Goals as goal

pub returns : goal.returns
returns g c = λ shape. load_writer_values (g.S.Shape.good shape)
