-- What the laws of tree maps say.
use Rattle.std.specs.Prelude.{◌≡◌, ℕ, ◌^◌, ◌<◌, true, List, length, slice_get}
use Rattle.std.specs.FinSet as set
use Rattle.std.specs.FinMap as entry_map
use Rattle.txn_alloc.specs.FreeLists.{IsInBlock}
use Rattle.txn_alloc.specs.EntryMaps.{Entries, Blocks}
use Rattle.txn_tree_map.specs.declared.map.TreeMap.{TreeMap}
use Rattle.txn_tree_map.specs.Trees.{priority_of, TreeHolds}

-- in one word list the map is one: its entries, and the blocks that hold them
abbrev pub OneMap : Type 0
OneMap =
    (map : TreeMap) (words : List ℕ) (entries others : Entries) (used blocks : Blocks)
    → TreeHolds map words entries used → TreeHolds map words others blocks → (entries ≡ others) × (used ≡ blocks)

-- lists of as many words, with the same root and the same words in the used blocks, hold the same map
abbrev pub TreeStands : Type 0
TreeStands =
    (map : TreeMap) (old new : List ℕ) (entries : Entries) (used : Blocks)
    → TreeHolds map old entries used
    → length new ≡ length old
    → slice_get new map.root ≡ slice_get old map.root
    → ((b a : ℕ) → set.contains used b ≡ true → IsInBlock map.arena b a → slice_get new a ≡ slice_get old a)
    → TreeHolds map new entries used

-- different keys have different priorities
abbrev pub PrioritiesDiffer : Type 0
PrioritiesDiffer = (key other : ℕ) → key < 2 ^ 64 → other < 2 ^ 64 → priority_of key ≡ priority_of other → key ≡ other

-- a map uses as many blocks as it has entries
abbrev pub AsManyBlocks : Type 0
AsManyBlocks =
    (map : TreeMap) (words : List ℕ) (entries : Entries) (used : Blocks) → TreeHolds map words entries used
    → set.len used ≡ entry_map.len entries
