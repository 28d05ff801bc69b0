use Rattle.txn_hash_map.proofs.Common.{ap, ◌/◌, ◌^◌}
use Rattle.txn_hash_map.specs.Chains.{bucket_of}
use Rattle.txn_hash_map.proofs.find.bucket.Goals as goal

pub returns : goal.returns
unfolding bucket_of
returns c = ap (λ n. n / 2 ^ 56) c.spread.ensures
