-- A map from keys to values, as a treap of blocks: a search tree on keys and a heap on priorities
-- (Seidel, Aragon, Randomized search trees, Algorithmica 1996), with the priorities made of the keys.
-- A word that names a block holds its number plus 1; 0 names none. Only `IsSpelled`, `HasTree` and `TreeHolds` know how
-- the tree goes through the blocks; all else speaks of the entries and of the set of blocks.
use Rattle.std.specs.Prelude.{◌≡◌, ℕ, ◌+◌, ◌<◌, ◌≤◌, ◌⊎◌, List, [], ◌∷◌, ◌++◌, Some, length, slice_get}
use Rattle.std.specs.List.{AllByRecursion}
use Rattle.std.specs.FinSet as set
use Rattle.std.specs.FinMap as entry_map
use Rattle.txn_alloc.specs.declared.arena.Arena.{Arena}
use Rattle.txn_alloc.specs.FreeLists.{block_at, IsHead, IsInBlock, IsLaidOut}
use Rattle.txn_alloc.specs.EntryMaps.{Cell, Entries, Blocks, Part, value_of, has_block}
use Rattle.txn_alloc.specs.Spread.{spread_of}
use Rattle.txn_tree_map.specs.declared.map.TreeMap.{TreeMap}

-- the priority of a key: the number that it is spread to
unfoldable pub priority_of : ℕ → ℕ
priority_of key = spread_of key

-- a tree of cells: none, or one between a left and a right subtree
pub data Tree : Type 0 where
  Leaf : Tree
  Node : Tree → Cell → Tree → Tree

-- what a word that heads the tree holds: 0 for none, and else the number of its top's block plus 1
abbrev pub name_of : Tree → ℕ
name_of Leaf = 0
name_of (Node left c right) = c.block + 1

-- the cell's block is one of the arena's; its words have the key, the value, and what heads the left and the right subtree
pub record HasNode (arena : Arena) (words : List ℕ) (c : Cell) (left right : ℕ) : Type 0 where
  pub below : c.block < arena.blocks
  pub key : slice_get words (block_at arena c.block) ≡ Some c.key
  pub value : slice_get words (block_at arena c.block + 1) ≡ Some c.value
  pub left_there : slice_get words (block_at arena c.block + 2) ≡ Some left
  pub right_there : slice_get words (block_at arena c.block + 3) ≡ Some right

-- each node's block has its cell and names its subtrees
abbrev pub IsSpelled : Arena → List ℕ → Tree → Type 0
IsSpelled arena words Leaf = Unit {0}
IsSpelled arena words (Node left c right) =
    HasNode arena words c (name_of left) (name_of right) × IsSpelled arena words left × IsSpelled arena words right

-- the word at this place heads this tree
abbrev pub HasTree : Arena → List ℕ → ℕ → Tree → Type 0
HasTree arena words place tree = (slice_get words place ≡ Some (name_of tree)) × IsSpelled arena words tree

-- the cells of a tree, from left to right
abbrev pub cells_of : Tree → List Cell
cells_of Leaf = []
cells_of (Node left c right) = cells_of left ++ c ∷ cells_of right

-- all keys are above this one
abbrev pub IsAbove : ℕ → List Cell → Type 0
IsAbove key cs = AllByRecursion (λ c. key < c.key) cs

-- each key is above those before it
abbrev pub IsRising : List Cell → Type 0
IsRising [] = Unit {0}
IsRising (c ∷ cs) = IsAbove c.key cs × IsRising cs

-- a search tree: from left to right the keys rise
abbrev pub IsSearchTree : Tree → Type 0
IsSearchTree tree = IsRising (cells_of tree)

-- how high a tree reaches: 0 for none, and else the priority of its top plus 1
abbrev pub rank_of : Tree → ℕ
rank_of Leaf = 0
rank_of (Node left c right) = priority_of c.key + 1

-- a heap: the priority of each node is above those of the nodes right below it
abbrev pub IsHeap : Tree → Type 0
IsHeap Leaf = Unit {0}
IsHeap (Node left c right) =
    (rank_of left ≤ priority_of c.key) × (rank_of right ≤ priority_of c.key) × IsHeap left × IsHeap right

-- the root is a word of the list, no head of the arena, and in no block
pub record IsLaid (map : TreeMap) (words : List ℕ) : Type 0 where
  pub arena : IsLaidOut map.arena words
  pub root : map.root < length words
  pub no_head : ¬ IsHead map.arena map.root
  pub outside : (b : ℕ) → b < map.arena.blocks → ¬ IsInBlock map.arena b map.root

-- the tree at the root holds exactly these entries, in exactly these blocks.
-- A key stands once, since keys rise, and a block has one key, so it too stands once
pub record TreeHolds (map : TreeMap) (words : List ℕ) (entries : Entries) (used : Blocks) : Type 0 where
  pub laid : IsLaid map words
  pub tree : Tree
  pub spelled : HasTree map.arena words map.root tree
  pub search : IsSearchTree tree
  pub heap : IsHeap tree
  pub entries_are : (key : ℕ) → entry_map.get entries key ≡ value_of key (cells_of tree)
  pub used_are : (b : ℕ) → set.contains used b ≡ has_block b (cells_of tree)

-- the map's part of the words
abbrev pub tree_part : TreeMap → Part
tree_part map = record {
  arena = map.arena;
  Holds = TreeHolds map;
  IsRoot = λ key a. a ≡ map.root;
  IsName = λ b a. (a ≡ block_at map.arena b + 2) ⊎ (a ≡ block_at map.arena b + 3);
}
