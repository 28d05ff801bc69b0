use Rattle.txn_alloc.proofs.Maps.InJobs.{good_at_start}
use Rattle.collections_tests.proofs.maps.first_wrong_of_chains.Goals as goal

pub first_wrong-requires-clause-order : goal.first_wrong-requires-clause-order
first_wrong-requires-clause-order c = good_at_start c.in_ok-plain.ensures.shape c.in_ok-plain.ensures.trace
