use Rattle.values_rule.proofs.StepKinds.LocksStand.{store_value_locks}
use Rattle.values_rule.proofs.StepKinds.ValueKinds.{store_value_values}
use Rattle.values_rule.proofs.laws.store_value.Goals as goal

pub returns-clause-locks : goal.returns-clause-locks
returns-clause-locks g c = store_value_locks

pub returns-clause-values : goal.returns-clause-values
returns-clause-values g c = λ shape. store_value_values (g.S.Shape.good shape)
