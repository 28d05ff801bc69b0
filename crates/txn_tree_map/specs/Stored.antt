-- Where the value of a key stands.
use Rattle.std.specs.Prelude.{◌≡◌, ℕ, ◌+◌, List, Option, Some, None, slice_get}
use Rattle.txn_alloc.specs.declared.put.Put.TheVariants.{Old}
use Rattle.txn_alloc.specs.FreeLists.{block_at}
use Rattle.txn_alloc.specs.EntryMaps.{IsUsedIn, Inserts}
use Rattle.txn_tree_map.specs.declared.map.TreeMap.{TreeMap}
use Rattle.txn_tree_map.specs.declared.in_place.Stored.{Stored}
use Rattle.txn_tree_map.specs.Trees.{tree_part}

-- the value that was found, if one was
abbrev pub value_in : Option Stored → Option ℕ
value_in None = None
value_in (Some stored) = Some stored.value

-- the map uses the block, and for this key
abbrev pub HasKeyIn : TreeMap → ℕ → ℕ → List ℕ → Type 0
HasKeyIn map key block words =
    IsUsedIn (tree_part map) words block × (slice_get words (block_at map.arena block) ≡ Some key)

-- from state to state: the key, which was there, has the value
abbrev pub Sets : TreeMap → ℕ → ℕ → List ℕ → List ℕ → Type 0
Sets map key value old new = (was : ℕ) × Inserts (tree_part map) key value (Old was) old new

-- from state to state: each key that was there stands where it stood
abbrev pub KeepsBlocks : TreeMap → List ℕ → List ℕ → Type 0
KeepsBlocks map old new = (key block : ℕ) → HasKeyIn map key block old → HasKeyIn map key block new

-- a is the word of the block's value
abbrev pub IsValueOf : TreeMap → ℕ → ℕ → Type 0
IsValueOf map block a = a ≡ block_at map.arena block + 1
