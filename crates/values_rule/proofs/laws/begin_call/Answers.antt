use Rattle.values_rule.proofs.StepKinds.LocksStand.{begin_call_locks}
use Rattle.values_rule.proofs.StepKinds.Begins.{begin_call_values}
use Rattle.values_rule.proofs.laws.begin_call.Goals as goal

pub returns-clause-locks : goal.returns-clause-locks
returns-clause-locks g c = begin_call_locks

pub returns-clause-values : goal.returns-clause-values
returns-clause-values g c = λ shape. begin_call_values (g.S.Shape.good shape)
