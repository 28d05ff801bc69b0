-- A map from keys to values, as chains of blocks, one chain for each bucket.
-- A word that names a block holds its number plus 1; 0 names none. Only `HasChain` and `ChainsHold` know how the
-- chains go; all else speaks of the entries and of the set of blocks.
use Rattle.std.specs.Prelude.{◌≡◌, ℕ, ◌+◌, ◌/◌, ◌^◌, ◌<◌, ◌≤◌, true, List, [], ◌∷◌, Some, length, slice_get}
use Rattle.std.specs.FinSet as set
use Rattle.std.specs.FinMap as entry_map
use Rattle.txn_alloc.specs.declared.arena.Arena.{Arena}
use Rattle.txn_alloc.specs.EntryMaps.{Cell, Entries, Blocks, Part, value_of, has_block, HasKeysOnce}
use Rattle.txn_alloc.specs.FreeLists.{block_at, IsHead, IsInBlock, IsLaidOut}
use Rattle.txn_alloc.specs.Spread.{spread_of}
use Rattle.txn_hash_map.specs.declared.map.ChainMap.{ChainMap}
use Rattle.txn_hash_map.specs.declared.map.TheConstants.{BUCKETS}

-- the bucket of a key: the top eight of the 64 bits that it is spread to
unfoldable pub bucket_of : ℕ → ℕ
bucket_of key = spread_of key / 2 ^ 56

-- the chain that the word at this place heads has these cells: word 0 of each block has the key, word 1 the value, and word 2 heads the rest
abbrev pub HasChain : Arena → List ℕ → ℕ → List Cell → Type 0
HasChain arena words place [] = slice_get words place ≡ Some 0
HasChain arena words place (c ∷ cs) =
    (slice_get words place ≡ Some (c.block + 1)) × (c.block < arena.blocks)
    × (slice_get words (block_at arena c.block) ≡ Some c.key)
    × (slice_get words (block_at arena c.block + 1) ≡ Some c.value)
    × HasChain arena words (block_at arena c.block + 2) cs

-- each cell's key has this bucket
abbrev pub HasKeysIn : ℕ → List Cell → Type 0
HasKeysIn i [] = Unit {0}
HasKeysIn i (c ∷ cs) = (bucket_of c.key ≡ i) × HasKeysIn i cs

-- a is a bucket's word
pub record IsBucket (map : ChainMap) (a : ℕ) : Type 0 where
  pub low : map.buckets ≤ a
  pub high : a < map.buckets + BUCKETS

-- the buckets' words are words of the list, no heads of the arena, and in no block
pub record IsLaid (map : ChainMap) (words : List ℕ) : Type 0 where
  pub arena : IsLaidOut map.arena words
  pub buckets : map.buckets + BUCKETS ≤ length words
  pub no_head : (a : ℕ) → IsBucket map a → ¬ IsHead map.arena a
  pub outside : (b a : ℕ) → b < map.arena.blocks → IsInBlock map.arena b a → ¬ IsBucket map a

-- the chains hold exactly these entries, in exactly these blocks.
-- Each key is in its own bucket's chain, and there once; a block has one key, so each block too is in one chain, and once
pub record ChainsHold (map : ChainMap) (words : List ℕ) (entries : Entries) (used : Blocks) : Type 0 where
  pub laid : IsLaid map words
  pub cells : ℕ → List Cell
  pub chain : (i : ℕ) → i < BUCKETS → HasChain map.arena words (map.buckets + i) (cells i)
  pub own : (i : ℕ) → i < BUCKETS → HasKeysIn i (cells i)
  pub once : (i : ℕ) → i < BUCKETS → HasKeysOnce (cells i)
  pub entries_are : (key : ℕ) → entry_map.get entries key ≡ value_of key (cells (bucket_of key))
  pub used_in : (b : ℕ) → set.contains used b ≡ true → (i : ℕ) × (i < BUCKETS) × (has_block b (cells i) ≡ true)
  pub in_used : (b i : ℕ) → i < BUCKETS → has_block b (cells i) ≡ true → set.contains used b ≡ true

-- the map's part of the words
abbrev pub chain_part : ChainMap → Part
chain_part map = record {
  arena = map.arena;
  Holds = ChainsHold map;
  IsRoot = λ key a. a ≡ map.buckets + bucket_of key;
  IsName = λ b a. a ≡ block_at map.arena b + 2;
}
