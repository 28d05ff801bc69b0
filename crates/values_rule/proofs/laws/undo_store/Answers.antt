use Rattle.values_rule.proofs.StepKinds.LocksStand.{undo_store_locks}
use Rattle.values_rule.proofs.StepKinds.ValueKinds.{undo_store_values}
use Rattle.values_rule.proofs.laws.undo_store.Goals as goal

pub returns-clause-locks : goal.returns-clause-locks
returns-clause-locks g c = undo_store_locks

pub returns-clause-values : goal.returns-clause-values
returns-clause-values g c = λ shape. undo_store_values (g.S.Shape.good shape)
