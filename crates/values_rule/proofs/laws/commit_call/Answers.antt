use Rattle.values_rule.proofs.StepKinds.LocksStand.{commit_call_locks}
use Rattle.values_rule.proofs.StepKinds.Commits.{commit_call_values}
use Rattle.values_rule.proofs.laws.commit_call.Goals as goal

pub returns-clause-locks : goal.returns-clause-locks
returns-clause-locks g c = λ shape. commit_call_locks (g.S.Shape.good shape)

pub returns-clause-values : goal.returns-clause-values
returns-clause-values g c = λ shape. commit_call_values (g.S.Shape.good shape)
