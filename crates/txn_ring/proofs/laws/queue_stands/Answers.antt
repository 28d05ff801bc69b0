use Rattle.txn_ring.proofs.Items.{queue_stands}
use Rattle.txn_ring.proofs.laws.queue_stands.Goals as goal

pub returns : goal.returns
returns c = queue_stands
