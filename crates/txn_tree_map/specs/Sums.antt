-- The first node from a key on, and how far a sum over keys has come.
use Rattle.std.specs.Prelude.{◌≡◌, ℕ, ◌+◌, ◌≤◌, ◌&&◌, nat_le, List, [], ◌∷◌, ◌++◌, Option, Some, None, if◌then◌else◌}
use Rattle.std.specs.List.{AllByRecursion}
use Rattle.txn_alloc.specs.EntryMaps.{Cell}
use Rattle.txn_tree_map.specs.declared.map.TreeMap.{TreeMap}
use Rattle.txn_tree_map.specs.declared.find.Named.{Named}
use Rattle.txn_tree_map.specs.Trees.{Tree, cells_of}
use Rattle.txn_tree_map.specs.Paths.{HangsAt, IsBelow}

-- all keys are this one or above it
abbrev pub IsFrom : ℕ → List Cell → Type 0
IsFrom least cs = AllByRecursion (λ c. least ≤ c.key) cs

-- the first of the cells, if there is one
abbrev pub IsFirst : Option Named → List Cell → Type 0
IsFirst None cs = cs ≡ []
IsFirst (Some node) cs = (c : Cell) × (rest : List Cell) × (cs ≡ c ∷ rest) × (c.block ≡ node.block) × (c.key ≡ node.key)

-- of the tree's cells from the key on, this is the first
pub record IsFirstFrom (map : TreeMap) (least : ℕ) (best : Option Named) (words : List ℕ) : Type 0 where
  pub tree : Tree
  pub is_at : HangsAt map [] tree words
  pub lows : List Cell
  pub highs : List Cell
  pub cells : cells_of tree ≡ lows ++ highs
  pub low : IsBelow least lows
  pub high : IsFrom least highs
  pub first : IsFirst best highs

-- the value of a cell whose key is from low to high, both included, and else 0
abbrev pub counted : ℕ → ℕ → Cell → ℕ
counted low high c = if nat_le low c.key && nat_le c.key high then c.value else 0

-- of the tree's cells from the key on, the first has this key and this value
pub record IsNext (map : TreeMap) (least key value : ℕ) (words : List ℕ) : Type 0 where
  pub tree : Tree
  pub is_at : HangsAt map [] tree words
  pub lows : List Cell
  pub cell : Cell
  pub highs : List Cell
  pub cells : cells_of tree ≡ lows ++ cell ∷ highs
  pub low : IsBelow least lows
  pub from : least ≤ cell.key
  pub is_key : cell.key ≡ key
  pub is_value : cell.value ≡ value

-- no cell has a key from the least to the high one, both included
pub record HasNoneTo (map : TreeMap) (least high : ℕ) (words : List ℕ) : Type 0 where
  pub tree : Tree
  pub is_at : HangsAt map [] tree words
  pub lows : List Cell
  pub highs : List Cell
  pub cells : cells_of tree ≡ lows ++ highs
  pub low : IsBelow least lows
  pub from : IsFrom least highs
  pub past : IsFrom (high + 1) highs

-- any word
abbrev pub IsAnyWord : List ℕ → ℕ → Type 0
IsAnyWord words a = Unit {0}
