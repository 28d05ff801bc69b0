use Rattle.txn_alloc.proofs.Maps.InJobs.{good_at_start, may_look}
use Rattle.collections_tests.proofs.paths.reads_of_a_sum.Goals as goal

pub put_all-requires-clause-order : goal.put_all-requires-clause-order
put_all-requires-clause-order c = good_at_start c.in_ok-plain.ensures.shape c.in_ok-plain.ensures.trace

pub sum_range-requires-clause-order : goal.sum_range-requires-clause-order
sum_range-requires-clause-order c = may_look c.in_ok-new.ensures.order
