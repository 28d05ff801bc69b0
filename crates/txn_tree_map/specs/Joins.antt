-- How two trees are joined into one, on words.
use Rattle.std.specs.Prelude.{◌≡◌, ℕ, ◌+◌, ◌<◌, ◌≤◌, ◌⊎◌, true, List, ◌++◌, Some, length, slice_get}
use Rattle.txn_words.specs.Frames.{KeepsOthers}
use Rattle.txn_alloc.specs.FreeLists.{block_at, IsInBlock}
use Rattle.txn_alloc.specs.EntryMaps.{Cell, has_block}
use Rattle.txn_tree_map.specs.declared.map.TreeMap.{TreeMap}
use Rattle.txn_tree_map.specs.Trees.{Tree, name_of, rank_of, cells_of, IsSpelled, HasTree, IsRising, IsHeap, IsLaid}
use Rattle.txn_tree_map.specs.Paths.{Path, place_at_end, before_of, after_of, IsHung, IsHigh, HangsAt}
use Rattle.txn_tree_map.specs.Searches.{IsKeyOrName, IsFoundAt}

-- a is the hole, or names a subtree in the block of one of the cells
abbrev pub IsHoleOrName : TreeMap → ℕ → List Cell → ℕ → Type 0
IsHoleOrName map hole cs a =
    (a ≡ hole) ⊎ ((b : ℕ) × (has_block b cs ≡ true) × ((a ≡ block_at map.arena b + 2) ⊎ (a ≡ block_at map.arena b + 3)))

-- a is the hole, or in the block of one of the cells the word of the key or of a name
abbrev pub IsHoleOrWord : TreeMap → ℕ → List Cell → ℕ → Type 0
IsHoleOrWord map hole cs a = (a ≡ hole) ⊎ ((b : ℕ) × (has_block b cs ≡ true) × IsKeyOrName map b a)

-- a is the place, or in one of the two blocks that the numbers name the word of the key or of a name
abbrev pub IsPlaceOrTop : TreeMap → ℕ → ℕ → ℕ → ℕ → Type 0
IsPlaceOrTop map place left right a =
    (a ≡ place) ⊎ ((b : ℕ) × ((left ≡ b + 1) ⊎ (right ≡ b + 1)) × IsKeyOrName map b a)

-- the numbers head two trees, the keys of the first all below those of the second; the hole is a word in none of their blocks
pub record ArePair (map : TreeMap) (hole left right : ℕ) (first second : Tree) (words : List ℕ) : Type 0 where
  pub laid : IsLaid map words
  pub left_name : name_of first ≡ left
  pub right_name : name_of second ≡ right
  pub left_spelled : IsSpelled map.arena words first
  pub right_spelled : IsSpelled map.arena words second
  pub search : IsRising (cells_of first ++ cells_of second)
  pub left_heap : IsHeap first
  pub right_heap : IsHeap second
  pub hole_in : hole < length words
  pub hole_out : (b : ℕ) → has_block b (cells_of first ++ cells_of second) ≡ true → ¬ IsInBlock map.arena b hole

-- some trees are such
pub record CanJoin (map : TreeMap) (hole left right : ℕ) (words : List ℕ) : Type 0 where
  pub first : Tree
  pub second : Tree
  pub pair : ArePair map hole left right first second words

-- the two trees are joined so far: a path leads from the hole down to the place, and what is to be joined still is headed by the two rests
pub record IsJoined (map : TreeMap) (hole left right turns place left_rest right_rest : ℕ)
    (old new : List ℕ) : Type 0 where
  pub first : Tree
  pub second : Tree
  pub pair : ArePair map hole left right first second old
  pub path : Path
  pub lefts : Tree
  pub rights : Tree
  pub left_name : name_of lefts ≡ left_rest
  pub right_name : name_of rights ≡ right_rest
  pub at : place ≡ place_at_end map.arena hole path
  pub place_has : ℕ
  pub hung : IsHung map.arena new hole path place_has
  pub left_spelled : IsSpelled map.arena new lefts
  pub right_spelled : IsSpelled map.arena new rights
  pub cells : cells_of first ++ cells_of second
      ≡ before_of path ++ ((cells_of lefts ++ cells_of rights) ++ after_of path)
  pub left_falls : (top : ℕ) → rank_of first ≤ top → rank_of second ≤ top → IsHigh top path (rank_of lefts)
  pub right_falls : (top : ℕ) → rank_of first ≤ top → rank_of second ≤ top → IsHigh top path (rank_of rights)
  pub left_heap : IsHeap lefts
  pub right_heap : IsHeap rights
  pub count : turns + (length (cells_of lefts) + length (cells_of rights)) ≤ map.arena.blocks
  pub kept : KeepsOthers (IsHoleOrName map hole (cells_of first ++ cells_of second)) old new

-- from state to state: what was joined so far is so still, by one node more
abbrev pub JoinsOne : TreeMap → ℕ → ℕ → ℕ → ℕ → ℕ → ℕ → List ℕ → List ℕ → Type 0
JoinsOne map place left_rest right_rest place' left_rest' right_rest' old new =
    (hole left right turns : ℕ) (start : List ℕ)
    → IsJoined map hole left right turns place left_rest right_rest start old
    → IsJoined map hole left right (turns + 1) place' left_rest' right_rest' start new

-- some trees are joined so far
pub record CanGoOn (map : TreeMap) (place left_rest right_rest : ℕ) (words : List ℕ) : Type 0 where
  pub hole : ℕ
  pub left : ℕ
  pub right : ℕ
  pub turns : ℕ
  pub start : List ℕ
  pub joined : IsJoined map hole left right turns place left_rest right_rest start words

-- the two trees are joined but for the word at the place, which is to have the name
pub record IsGathered (map : TreeMap) (hole left right place name : ℕ) (old new : List ℕ) : Type 0 where
  pub first : Tree
  pub second : Tree
  pub pair : ArePair map hole left right first second old
  pub path : Path
  pub last : Tree
  pub is_name : name_of last ≡ name
  pub at : place ≡ place_at_end map.arena hole path
  pub place_has : ℕ
  pub hung : IsHung map.arena new hole path place_has
  pub spelled : IsSpelled map.arena new last
  pub cells : cells_of first ++ cells_of second ≡ before_of path ++ (cells_of last ++ after_of path)
  pub falls : (top : ℕ) → rank_of first ≤ top → rank_of second ≤ top → IsHigh top path (rank_of last)
  pub heap : IsHeap last
  pub kept : KeepsOthers (IsHoleOrName map hole (cells_of first ++ cells_of second)) old new

-- from state to state: the hole heads one tree of the cells of both
pub record Joins (map : TreeMap) (hole left right : ℕ) (old new : List ℕ) : Type 0 where
  pub first : Tree
  pub second : Tree
  pub pair : ArePair map hole left right first second old
  pub tree : Tree
  pub there : HasTree map.arena new hole tree
  pub cells : cells_of first ++ cells_of second ≡ cells_of tree
  pub lower : (top : ℕ) → rank_of first ≤ top → rank_of second ≤ top → rank_of tree ≤ top
  pub heap : IsHeap tree
  pub kept : KeepsOthers (IsHoleOrName map hole (cells_of first ++ cells_of second)) old new

-- a is the hole, or names a subtree in a block of the two trees that the numbers head
abbrev pub IsJoinOwn : TreeMap → ℕ → ℕ → ℕ → List ℕ → List ℕ → ℕ → Type 0
IsJoinOwn map hole left right before after a = (first second : Tree) → ArePair map hole left right first second before
    → IsHoleOrName map hole (cells_of first ++ cells_of second) a

-- the same of a hole, and of what may be read of the two trees
abbrev pub IsJoinSeen : TreeMap → ℕ → ℕ → ℕ → List ℕ → List ℕ → ℕ → Type 0
IsJoinSeen map hole left right before after a =
    (first second : Tree) → ArePair map hole left right first second before
    → IsHoleOrWord map hole (cells_of first ++ cells_of second) a

-- the key's cell is out of the tree: where it was hangs one tree of the cells below it
pub record IsCut (map : TreeMap) (key place block value : ℕ) (old new : List ℕ) : Type 0 where
  pub before : IsFoundAt map key place block old
  pub value_there : slice_get old (block_at map.arena block + 1) ≡ Some value
  pub tree : Tree
  pub is_at : HangsAt map before.path tree new
  pub cells : cells_of before.left ++ cells_of before.right ≡ cells_of tree
  pub kept : KeepsOthers (IsHoleOrName map place (cells_of before.left ++ cells_of before.right)) old new

-- the word at the place names the block of some key's cell
pub record CanCut (map : TreeMap) (place block : ℕ) (words : List ℕ) : Type 0 where
  pub key : ℕ
  pub found : IsFoundAt map key place block words

-- from state to state: whichever key was found there, its cell is out of the tree
abbrev pub Cuts : TreeMap → ℕ → ℕ → ℕ → List ℕ → List ℕ → Type 0
Cuts map place block value old new =
    (key : ℕ) → IsFoundAt map key place block old → IsCut map key place block value old new

-- a is the place, or names a subtree in a block below the cell
abbrev pub IsCutOwn : TreeMap → ℕ → ℕ → List ℕ → List ℕ → ℕ → Type 0
IsCutOwn map place block before after a = (key : ℕ) (h : IsFoundAt map key place block before)
    → IsHoleOrName map place (cells_of h.left ++ cells_of h.right) a

-- a is a word of the block's value or of a name in it, or may be read of the two trees below it
abbrev pub IsCutSeen : TreeMap → ℕ → ℕ → List ℕ → List ℕ → ℕ → Type 0
IsCutSeen map place block before after a =
    ((a ≡ block_at map.arena block + 1) ⊎ IsKeyOrName map block a)
    ⊎ ((key : ℕ) (h : IsFoundAt map key place block before)
    → IsHoleOrWord map place (cells_of h.left ++ cells_of h.right) a)
