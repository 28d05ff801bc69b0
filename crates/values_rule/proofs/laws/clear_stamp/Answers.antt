use Rattle.values_rule.proofs.StepKinds.LocksStand.{clear_stamp_locks}
use Rattle.values_rule.proofs.StepKinds.LockKinds.{clear_stamp_values}
use Rattle.values_rule.proofs.laws.clear_stamp.Goals as goal

pub returns-clause-locks : goal.returns-clause-locks
returns-clause-locks g c = clear_stamp_locks

pub returns-clause-values : goal.returns-clause-values
returns-clause-values g c = λ shape. clear_stamp_values (g.S.Shape.good shape)
