use Rattle.values_rule.proofs.StepKinds.LockKinds.{release_writer_values}
use Rattle.values_rule.proofs.laws.release_writer.Goals as goal

pub returns : goal.returns
returns g c = λ shape. release_writer_values (g.S.Shape.good shape)
