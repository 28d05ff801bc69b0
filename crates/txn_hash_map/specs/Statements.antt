-- What the laws of chained maps say.
use Rattle.std.specs.Prelude.{◌≡◌, ℕ, true, List, length, slice_get}
use Rattle.std.specs.FinSet as set
use Rattle.std.specs.FinMap as entry_map
use Rattle.txn_alloc.specs.FreeLists.{IsInBlock}
use Rattle.txn_hash_map.specs.declared.map.ChainMap.{ChainMap}
use Rattle.txn_alloc.specs.EntryMaps.{Entries, Blocks}
use Rattle.txn_hash_map.specs.Chains.{IsBucket, ChainsHold}

-- in one word list the map is one: its entries, and the blocks that hold them
abbrev pub OneMap : Type 0
OneMap =
    (map : ChainMap) (words : List ℕ) (entries others : Entries) (used blocks : Blocks)
    → ChainsHold map words entries used → ChainsHold map words others blocks → (entries ≡ others) × (used ≡ blocks)

-- lists of as many words, with the same buckets and the same words in the used blocks, hold the same map
abbrev pub ChainsStand : Type 0
ChainsStand =
    (map : ChainMap) (old new : List ℕ) (entries : Entries) (used : Blocks)
    → ChainsHold map old entries used
    → length new ≡ length old
    → ((a : ℕ) → IsBucket map a → slice_get new a ≡ slice_get old a)
    → ((b a : ℕ) → set.contains used b ≡ true → IsInBlock map.arena b a → slice_get new a ≡ slice_get old a)
    → ChainsHold map new entries used

-- a map uses as many blocks as it has entries
abbrev pub AsManyBlocks : Type 0
AsManyBlocks =
    (map : ChainMap) (words : List ℕ) (entries : Entries) (used : Blocks) → ChainsHold map words entries used
    → set.len used ≡ entry_map.len entries
