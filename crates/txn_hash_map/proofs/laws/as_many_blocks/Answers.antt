use Rattle.txn_hash_map.proofs.Numbers.{as_many_blocks}
use Rattle.txn_hash_map.proofs.laws.as_many_blocks.Goals as goal

pub returns : goal.returns
returns c = as_many_blocks
