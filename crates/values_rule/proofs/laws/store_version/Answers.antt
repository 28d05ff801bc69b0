use Rattle.values_rule.proofs.StepKinds.LocksStand.{store_version_locks}
use Rattle.values_rule.proofs.StepKinds.VersionStores.{store_version_values}
use Rattle.values_rule.proofs.laws.store_version.Goals as goal

pub returns-clause-locks : goal.returns-clause-locks
returns-clause-locks g c = store_version_locks

pub returns-clause-values : goal.returns-clause-values
returns-clause-values g c = λ shape. store_version_values (g.S.Shape.good shape)
