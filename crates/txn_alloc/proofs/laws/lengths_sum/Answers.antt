use Rattle.txn_alloc.proofs.Maps.Counting.{lengths_sum}
use Rattle.txn_alloc.proofs.laws.lengths_sum.Goals as goal

pub returns : goal.returns
returns c = lengths_sum
