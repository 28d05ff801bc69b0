-- How a tree is parted around a key, and how two trees are joined, on words.
use Rattle.std.specs.Prelude.{◌≡◌, ◌≢◌, ℕ, ◌+◌, ◌<◌, ◌≤◌, ◌⊎◌, true, false, List, [], ◌++◌, Some, length, slice_get, slice_set}
use Rattle.std.specs.List.{AllByRecursion}
use Rattle.txn_words.specs.Frames.{KeepsOthers}
use Rattle.txn_alloc.specs.FreeLists.{block_at, IsInBlock}
use Rattle.txn_alloc.specs.EntryMaps.{Cell, has_block}
use Rattle.txn_tree_map.specs.declared.map.TreeMap.{TreeMap}
use Rattle.txn_tree_map.specs.Trees.{Tree, priority_of, name_of, rank_of, cells_of, IsSpelled, HasTree, IsAbove, IsRising, IsHeap, IsLaid}
use Rattle.txn_tree_map.specs.Trees.Tree.{Node}
use Rattle.txn_tree_map.specs.Paths.{Path, place_at_end, before_of, after_of, IsHung, IsHigh, IsBelow, HangsAt}
use Rattle.txn_tree_map.specs.Searches.{IsKeyOrName, IsMissing}

-- from state to state: the word at the hole has the name, and nothing else changed; the inner word held what was answered
pub record Hangs (hole name inner rest : ℕ) (old new : List ℕ) : Type 0 where
  pub changed : new ≡ slice_set old hole name
  pub there : slice_get old inner ≡ Some rest

-- both places are words of the list
pub record AreWithin (hole inner : ℕ) (words : List ℕ) : Type 0 where
  pub hole_in : hole < length words
  pub inner_in : inner < length words

-- a names a subtree in block b, or in a block of the tree
pub record IsNameIn (map : TreeMap) (block : ℕ) (tree : Tree) (a : ℕ) : Type 0 where
  pub owner : ℕ
  pub mine : (owner ≡ block) ⊎ (has_block owner (cells_of tree) ≡ true)
  pub place : (a ≡ block_at map.arena owner + 2) ⊎ (a ≡ block_at map.arena owner + 3)

-- the number heads a tree without the key, which reaches no higher than the key's priority and has not the block
pub record IsWhole (map : TreeMap) (key block name : ℕ) (tree : Tree) (words : List ℕ) : Type 0 where
  pub laid : IsLaid map words
  pub is_name : name_of tree ≡ name
  pub spelled : IsSpelled map.arena words tree
  pub search : IsRising (cells_of tree)
  pub heap : IsHeap tree
  pub other : AllByRecursion (λ c. c.key ≢ key) (cells_of tree)
  pub lower : rank_of tree ≤ priority_of key
  pub below : block < map.arena.blocks
  pub apart : has_block block (cells_of tree) ≡ false

-- some tree is such
pub record CanSplit (map : TreeMap) (key block name : ℕ) (words : List ℕ) : Type 0 where
  pub tree : Tree
  pub whole : IsWhole map key block name tree words

-- the tree that the name headed is parted so far: the smaller keys hang on a path that ends at one place, the greater ones on
-- a path that ends at the other, and the rest, which a number heads, is to be parted still
pub record IsParted (map : TreeMap) (key block name turns smaller greater rest : ℕ) (old new : List ℕ) : Type 0 where
  pub tree : Tree
  pub whole : IsWhole map key block name tree old
  pub low_path : Path
  pub high_path : Path
  pub inner : Tree
  pub is_rest : name_of inner ≡ rest
  pub smaller_at : smaller ≡ place_at_end map.arena (block_at map.arena block + 2) low_path
  pub greater_at : greater ≡ place_at_end map.arena (block_at map.arena block + 3) high_path
  pub smaller_has : ℕ
  pub greater_has : ℕ
  pub low_hung : IsHung map.arena new (block_at map.arena block + 2) low_path smaller_has
  pub high_hung : IsHung map.arena new (block_at map.arena block + 3) high_path greater_has
  pub spelled : IsSpelled map.arena new inner
  pub cells : cells_of tree ≡ before_of low_path ++ (cells_of inner ++ after_of high_path)
  pub low_end : after_of low_path ≡ []
  pub high_end : before_of high_path ≡ []
  pub low : IsBelow key (before_of low_path)
  pub high : IsAbove key (after_of high_path)
  pub low_falls : IsHigh (priority_of key) low_path (rank_of inner)
  pub high_falls : IsHigh (priority_of key) high_path (rank_of inner)
  pub heap : IsHeap inner
  pub count : turns + length (cells_of inner) ≤ map.arena.blocks
  pub kept : KeepsOthers (IsNameIn map block tree) old new

-- from state to state: what was parted so far is so still, by one node more
abbrev pub PartsOne : TreeMap → ℕ → ℕ → ℕ → ℕ → ℕ → ℕ → ℕ → List ℕ → List ℕ → Type 0
PartsOne map key smaller greater rest smaller' greater' rest' old new =
    (block name turns : ℕ) (start : List ℕ) → IsParted map key block name turns smaller greater rest start old
    → IsParted map key block name (turns + 1) smaller' greater' rest' start new

-- a is one of the two ends, or in the block that the number names the word of the key or of a name
abbrev pub IsEndOrTop : TreeMap → ℕ → ℕ → ℕ → ℕ → Type 0
IsEndOrTop map smaller greater rest a =
    (a ≡ smaller) ⊎ ((a ≡ greater) ⊎ ((b : ℕ) × (rest ≡ b + 1) × IsKeyOrName map b a))

-- some tree is parted so far
pub record CanPart (map : TreeMap) (key smaller greater rest : ℕ) (words : List ℕ) : Type 0 where
  pub block : ℕ
  pub name : ℕ
  pub turns : ℕ
  pub start : List ℕ
  pub parted : IsParted map key block name turns smaller greater rest start words

-- from state to state: the tree that the name headed is parted around the key, and the block's words name the parts
pub record Splits (map : TreeMap) (key block name : ℕ) (old new : List ℕ) : Type 0 where
  pub tree : Tree
  pub whole : IsWhole map key block name tree old
  pub left : Tree
  pub right : Tree
  pub left_there : HasTree map.arena new (block_at map.arena block + 2) left
  pub right_there : HasTree map.arena new (block_at map.arena block + 3) right
  pub cells : cells_of tree ≡ cells_of left ++ cells_of right
  pub low : IsBelow key (cells_of left)
  pub high : IsAbove key (cells_of right)
  pub left_lower : rank_of left ≤ priority_of key
  pub right_lower : rank_of right ≤ priority_of key
  pub left_heap : IsHeap left
  pub right_heap : IsHeap right
  pub kept : KeepsOthers (IsNameIn map block tree) old new

-- a names a subtree in the block, or in a block of a tree that the name heads
abbrev pub IsSplitOwn : TreeMap → ℕ → ℕ → ℕ → List ℕ → List ℕ → ℕ → Type 0
IsSplitOwn map key block name before after a =
    (tree : Tree) → IsWhole map key block name tree before → IsNameIn map block tree a

-- a is the word of the key or of a name in the block, or in a block of the tree
pub record IsWordIn (map : TreeMap) (block : ℕ) (tree : Tree) (a : ℕ) : Type 0 where
  pub owner : ℕ
  pub mine : (owner ≡ block) ⊎ (has_block owner (cells_of tree) ≡ true)
  pub place : IsKeyOrName map owner a

-- the same of a tree that the name heads
abbrev pub IsSplitSeen : TreeMap → ℕ → ℕ → ℕ → List ℕ → List ℕ → ℕ → Type 0
IsSplitSeen map key block name before after a =
    (tree : Tree) → IsWhole map key block name tree before → IsWordIn map block tree a

-- the key is in no cell, and the block is one of the arena's and in none of the tree's cells
pub record CanPut (map : TreeMap) (key block : ℕ) (words : List ℕ) : Type 0 where
  pub missing : IsMissing map key words
  pub below : block < map.arena.blocks
  pub apart : has_block block (before_of missing.path ++ after_of missing.path) ≡ false

-- a is the root, or in the block, or in the block of one of the cells
abbrev pub IsRootOrIn : TreeMap → ℕ → List Cell → ℕ → Type 0
IsRootOrIn map block cs a =
    (a ≡ map.root) ⊎ ((b : ℕ) × ((b ≡ block) ⊎ (has_block b cs ≡ true)) × IsInBlock map.arena b a)

-- from state to state: the key's cell is in its place among those that were there, in the block
pub record IsPut (map : TreeMap) (key value block : ℕ) (old new : List ℕ) : Type 0 where
  pub before : CanPut map key block old
  pub path : Path
  pub left : Tree
  pub right : Tree
  pub is_at : HangsAt map path (Node left (record { block = block; key = key; value = value }) right) new
  pub cells : before_of before.missing.path ++ after_of before.missing.path
      ≡ (before_of path ++ cells_of left) ++ (cells_of right ++ after_of path)
  pub low : IsBelow key (before_of path ++ cells_of left)
  pub kept : KeepsOthers (IsRootOrIn map block (before_of before.missing.path ++ after_of before.missing.path)) old new

-- a is the root, or in the block, or in one of the tree's blocks
abbrev pub IsPutOwn : TreeMap → ℕ → ℕ → List ℕ → List ℕ → ℕ → Type 0
IsPutOwn map key block before after a = (can : CanPut map key block before)
    → IsRootOrIn map block (before_of can.missing.path ++ after_of can.missing.path) a

-- a is the root, or in the block, or in one of the tree's blocks the word of the key or of a name
abbrev pub IsPutSeen : TreeMap → ℕ → ℕ → List ℕ → List ℕ → ℕ → Type 0
IsPutSeen map key block before after a =
    (can : CanPut map key block before)
    → (a ≡ map.root)
    ⊎ (IsInBlock map.arena block a
    ⊎ ((b : ℕ) × (has_block b (before_of can.missing.path ++ after_of can.missing.path) ≡ true) × IsKeyOrName map b a))
