-- How far a search down the tree has come, and what it found.
use Rattle.std.specs.Prelude.{◌≡◌, ℕ, ◌+◌, ◌^◌, ◌≤◌, ◌⊎◌, true, List, ◌++◌, Some, slice_get}
use Rattle.txn_alloc.specs.FreeLists.{block_at}
use Rattle.txn_alloc.specs.EntryMaps.{Cell, has_block}
use Rattle.txn_tree_map.specs.declared.map.TreeMap.{TreeMap}
use Rattle.txn_tree_map.specs.Trees.{Tree, priority_of, cells_of, rank_of, name_of, HasTree, IsLaid, IsAbove}
use Rattle.txn_tree_map.specs.Trees.Tree.{Leaf, Node}
use Rattle.txn_tree_map.specs.Paths.{Path, place_at_end, before_of, after_of, HangsAt, IsBelow, IsHigh}

-- a is the word of the key of block b, or names one of its subtrees
abbrev pub IsKeyOrName : TreeMap → ℕ → ℕ → Type 0
IsKeyOrName map b a = (a ≡ block_at map.arena b) ⊎ ((a ≡ block_at map.arena b + 2) ⊎ (a ≡ block_at map.arena b + 3))

-- block b is one of the tree's, wherever in it one stands
abbrev pub IsOfTree : TreeMap → ℕ → List ℕ → Type 0
IsOfTree map b words =
    (path : Path) (tree : Tree) → HangsAt map path tree words
    → has_block b (before_of path ++ (cells_of tree ++ after_of path)) ≡ true

-- the root, or in a block of the tree the word of its key or of a name: what a search reads
abbrev pub IsLink : TreeMap → List ℕ → ℕ → Type 0
IsLink map words a = (a ≡ map.root) ⊎ ((b : ℕ) × IsOfTree map b words × IsKeyOrName map b a)

-- a is the place
abbrev pub IsPlace : ℕ → List ℕ → ℕ → Type 0
IsPlace place words a = a ≡ place

-- a is the place, or the word of the block's key
abbrev pub IsPlaceOrKey : TreeMap → ℕ → ℕ → List ℕ → ℕ → Type 0
IsPlaceOrKey map place block words a = (a ≡ place) ⊎ (a ≡ block_at map.arena block)

-- the word at the place heads some tree
pub record HasTop (map : TreeMap) (place : ℕ) (words : List ℕ) : Type 0 where
  pub laid : IsLaid map words
  pub tree : Tree
  pub head : HasTree map.arena words place tree

-- the word at the place names the block, and this is its key
abbrev pub IsNamed : TreeMap → ℕ → ℕ → ℕ → List ℕ → Type 0
IsNamed map place block key words =
    (slice_get words place ≡ Some (block + 1)) × (slice_get words (block_at map.arena block) ≡ Some key)

-- the word at the place names none
abbrev pub IsEnd : ℕ → List ℕ → Type 0
IsEnd place words = slice_get words place ≡ Some 0

-- the word at the place names the block of the key's cell
pub record IsFoundAt (map : TreeMap) (key place block : ℕ) (words : List ℕ) : Type 0 where
  pub path : Path
  pub left : Tree
  pub cell : Cell
  pub right : Tree
  pub is_at : HangsAt map path (Node left cell right) words
  pub at : place ≡ place_at_end map.arena map.root path
  pub is_block : cell.block ≡ block
  pub is_key : cell.key ≡ key

-- the key is in no cell: the place where it would hang is a leaf
pub record IsMissing (map : TreeMap) (key : ℕ) (words : List ℕ) : Type 0 where
  pub path : Path
  pub is_at : HangsAt map path Leaf words
  pub low : IsBelow key (before_of path)
  pub high : IsAbove key (after_of path)

-- the place where a node with this key hangs by its priority: all above are higher, and what hangs there, which the number names, is not
pub record IsSeat (map : TreeMap) (key place name : ℕ) (words : List ℕ) : Type 0 where
  pub path : Path
  pub rest : Tree
  pub is_at : HangsAt map path rest words
  pub at : place ≡ place_at_end map.arena map.root path
  pub low : IsBelow key (before_of path)
  pub high : IsAbove key (after_of path)
  pub higher : IsHigh (2 ^ 64) path (priority_of key + 1)
  pub lower : rank_of rest ≤ priority_of key
  pub is_name : name_of rest ≡ name
