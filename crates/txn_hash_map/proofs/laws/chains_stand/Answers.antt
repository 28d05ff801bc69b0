use Rattle.txn_hash_map.proofs.Stands.{chains_stand}
use Rattle.txn_hash_map.proofs.laws.chains_stand.Goals as goal

pub returns : goal.returns
returns c = chains_stand
