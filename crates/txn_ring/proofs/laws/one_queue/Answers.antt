use Rattle.txn_ring.proofs.Items.{one_queue}
use Rattle.txn_ring.proofs.laws.one_queue.Goals as goal

pub returns : goal.returns
returns c = one_queue
