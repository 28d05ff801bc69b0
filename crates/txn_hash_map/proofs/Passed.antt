-- How far a search along a chain has come.
use Rattle.txn_hash_map.proofs.Common.{ChainMap, Cell, value_of, HasKeysOnce, HasChain, bucket_of, IsLaid, place_after}
use Rattle.std.specs.Prelude.{◌≡◌, ℕ, ◌+◌, List, ◌++◌, None, length}

-- the chain of the key's bucket begins with so many cells that do not have the key, and then goes on at the place
pub record IsPassed (map : ChainMap) (key place passed : ℕ) (words : List ℕ) : Type 0 where
  pub laid : IsLaid map words
  pub front : List Cell
  pub rest : List Cell
  pub chain : HasChain map.arena words (map.buckets + bucket_of key) (front ++ rest)
  pub once : HasKeysOnce (front ++ rest)
  pub at : place ≡ place_after map.arena (map.buckets + bucket_of key) front
  pub lacking : value_of key front ≡ None
  pub count : length front ≡ passed
