use Rattle.txn_alloc.proofs.FreeLists.Laid.{AreCleared}
use Rattle.txn_alloc.proofs.lay.clear.Given as goal

abbrev pub invariant-loop-passed : goal.invariant-loop-passed
invariant-loop-passed l = AreCleared l.first l.count l.initial.words l.passed l.words
