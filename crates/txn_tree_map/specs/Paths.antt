-- The path from the root of a tree down to a place in it, and what hangs there.
use Rattle.std.specs.Prelude.{◌≡◌, ℕ, ◌+◌, ◌^◌, ◌<◌, ◌≤◌, Bool, List, [], ◌∷◌, ◌++◌, Some, slice_get, if◌then◌else◌}
use Rattle.std.specs.List.{AllByRecursion}
use Rattle.txn_alloc.specs.declared.arena.Arena.{Arena}
use Rattle.txn_alloc.specs.FreeLists.{block_at}
use Rattle.txn_alloc.specs.EntryMaps.{Cell}
use Rattle.txn_tree_map.specs.declared.map.TreeMap.{TreeMap}
use Rattle.txn_tree_map.specs.Trees.{Tree, priority_of, name_of, rank_of, cells_of, HasNode, IsSpelled, IsRising, IsHeap, IsLaid}

-- one step down from a node: to the left or not, past its cell, with the subtree on the other side
pub record Step : Type 0 where
  pub left : Bool
  pub cell : Cell
  pub other : Tree

-- the steps from the root to a place, the lowest first
abbrev pub Path : Type 0
Path = List Step

-- the place of the word at the end of the path
abbrev pub place_at_end : Arena → ℕ → Path → ℕ
place_at_end arena root [] = root
place_at_end arena root (st ∷ path) = block_at arena st.cell.block + (if st.left then 2 else 3)

-- the cells left of the place, and those right of it
abbrev pub before_of : Path → List Cell
before_of [] = []
before_of (st ∷ path) = before_of path ++ (if st.left then [] else cells_of st.other ++ st.cell ∷ [])

abbrev pub after_of : Path → List Cell
after_of [] = []
after_of (st ∷ path) = (if st.left then st.cell ∷ cells_of st.other else []) ++ after_of path

-- the words spell the path down from the word at the root, and the word at its end holds this name
abbrev pub IsHung : Arena → List ℕ → ℕ → Path → ℕ → Type 0
IsHung arena words root [] name = slice_get words root ≡ Some name
IsHung arena words root (st ∷ path) name =
    HasNode arena words st.cell (if st.left then name else name_of st.other)
    (if st.left then name_of st.other else name)
    × IsSpelled arena words st.other × IsHung arena words root path (st.cell.block + 1)

-- the priorities of the path fall from the top downwards, and what hangs at its end reaches no higher than the last
abbrev pub IsHigh : ℕ → Path → ℕ → Type 0
IsHigh top [] rank = rank ≤ top
IsHigh top (st ∷ path) rank =
    (rank ≤ priority_of st.cell.key) × (rank_of st.other ≤ priority_of st.cell.key) × IsHeap st.other
    × IsHigh top path (priority_of st.cell.key + 1)

-- all keys are below this one
abbrev pub IsBelow : ℕ → List Cell → Type 0
IsBelow key cs = AllByRecursion (λ c. c.key < key) cs

-- the map's tree is the path with this tree at its end
pub record HangsAt (map : TreeMap) (path : Path) (tree : Tree) (words : List ℕ) : Type 0 where
  pub laid : IsLaid map words
  pub hung : IsHung map.arena words map.root path (name_of tree)
  pub spelled : IsSpelled map.arena words tree
  pub search : IsRising (before_of path ++ (cells_of tree ++ after_of path))
  pub high : IsHigh (2 ^ 64) path (rank_of tree)
  pub heap : IsHeap tree
