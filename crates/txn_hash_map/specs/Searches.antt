-- How far a search along a chain has come.
use Rattle.std.specs.Prelude.{slice_get, ◌≡◌, ◌≢◌, ℕ, ◌+◌, ◌⊎◌, true, List, [], ◌∷◌, ◌++◌, Some, None, length}
use Rattle.txn_alloc.specs.declared.arena.Arena.{Arena}
use Rattle.txn_alloc.specs.FreeLists.{block_at, IsInBlock}
use Rattle.txn_hash_map.specs.declared.map.ChainMap.{ChainMap}
use Rattle.txn_alloc.specs.EntryMaps.{Cell, value_of, has_block, HasKeysOnce}
use Rattle.txn_hash_map.specs.Chains.{HasChain, bucket_of, IsLaid}

-- the place of the word that names the cell after these, which a word at the place given heads
abbrev pub place_after : Arena → ℕ → List Cell → ℕ
place_after arena place [] = place
place_after arena place (c ∷ cs) = place_after arena (block_at arena c.block + 2) cs

-- the word at the place names the block of the key's cell
pub record IsFoundAt (map : ChainMap) (key place block : ℕ) (words : List ℕ) : Type 0 where
  pub laid : IsLaid map words
  pub front : List Cell
  pub cell : Cell
  pub rest : List Cell
  pub chain : HasChain map.arena words (map.buckets + bucket_of key) (front ++ cell ∷ rest)
  pub once : HasKeysOnce (front ++ cell ∷ rest)
  pub at : place ≡ place_after map.arena (map.buckets + bucket_of key) front
  pub lacking : value_of key front ≡ None
  pub is_block : cell.block ≡ block
  pub is_key : cell.key ≡ key

-- the key is in no cell of its bucket
pub record IsMissing (map : ChainMap) (key : ℕ) (words : List ℕ) : Type 0 where
  pub cells : List Cell
  pub chain : HasChain map.arena words (map.buckets + bucket_of key) cells
  pub lacking : value_of key cells ≡ None

-- block b is one of those of the key's chain
abbrev pub IsOfChain : ChainMap → ℕ → ℕ → List ℕ → Type 0
IsOfChain map key b words =
    (cells : List Cell) → HasChain map.arena words (map.buckets + bucket_of key) cells → has_block b cells ≡ true

-- the word of the key's bucket, or in a block of its chain the word of the key or of the next block: what a search reads
abbrev pub IsLink : ChainMap → ℕ → List ℕ → ℕ → Type 0
IsLink map key words a =
    (a ≡ map.buckets + bucket_of key)
    ⊎ ((b : ℕ) × IsOfChain map key b words × ((a ≡ block_at map.arena b) ⊎ (a ≡ block_at map.arena b + 2)))

-- the block is the first of its bucket's chain, with key and value, and heads what the bucket headed; other words stay
pub record IsPutInFront (map : ChainMap) (key value block : ℕ) (old new : List ℕ) : Type 0 where
  pub count : length new ≡ length old
  pub name : slice_get new (map.buckets + bucket_of key) ≡ Some (block + 1)
  pub key_there : slice_get new (block_at map.arena block) ≡ Some key
  pub value_there : slice_get new (block_at map.arena block + 1) ≡ Some value
  pub next_there : slice_get new (block_at map.arena block + 2) ≡ slice_get old (map.buckets + bucket_of key)
  pub others : (a : ℕ) → a ≢ map.buckets + bucket_of key → ¬ IsInBlock map.arena block a
      → slice_get new a ≡ slice_get old a

-- a is the word of the key's bucket or in the block
abbrev pub IsBucketOrIn : ChainMap → ℕ → ℕ → ℕ → Type 0
IsBucketOrIn map key block a = (a ≡ map.buckets + bucket_of key) ⊎ IsInBlock map.arena block a
