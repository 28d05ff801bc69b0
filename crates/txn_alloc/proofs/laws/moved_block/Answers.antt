use Rattle.txn_alloc.proofs.Apart.{moved_block}
use Rattle.txn_alloc.proofs.laws.moved_block.Goals as goal

pub returns : goal.returns
returns c = moved_block
