use Rattle.values_rule.proofs.StepKinds.LocksStand.{load_version_locks}
use Rattle.values_rule.proofs.StepKinds.VersionLoads.{load_version_values}
use Rattle.values_rule.proofs.laws.load_version.Goals as goal

pub returns-clause-locks : goal.returns-clause-locks
returns-clause-locks g c = load_version_locks

pub returns-clause-values : goal.returns-clause-values
returns-clause-values g c = λ shape. load_version_values (g.S.Shape.good shape)
