-- The first node from a key on, and how far a sum over keys has come.
use Rattle.txn_tree_map.proofs.Common.{Cell, TreeMap, Named, Tree, cells_of, Path, place_at_end, before_of, after_of, HangsAt, IsBelow, IsFrom, counted}
use Rattle.std.specs.Prelude.{◌≡◌, ℕ, ◌+◌, ◌≤◌, List, [], ◌∷◌, ◌++◌, Option, length}
use Rattle.txn_tree_map.specs.Sums.{IsFirst}

-- the search for the first node from a key on has come to the place: right of it all keys are from there on, and the best is the first of them
pub record IsNear (map : TreeMap) (least : ℕ) (best : Option Named) (place passed : ℕ) (words : List ℕ) : Type 0 where
  pub path : Path
  pub rest : Tree
  pub is_at : HangsAt map path rest words
  pub at : place ≡ place_at_end map.arena map.root path
  pub low : IsBelow least (before_of path)
  pub high : IsFrom least (after_of path)
  pub first : IsFirst best (after_of path)
  pub count : passed + length (cells_of rest) ≤ map.arena.blocks

-- the sum of what a function says of the cells
abbrev pub sum_cells : (Cell → ℕ) → List Cell → ℕ
sum_cells f [] = 0
sum_cells f (c ∷ cs) = f c + sum_cells f cs

-- the cells below a key are summed, so many that no more than the other blocks are left
pub record IsSummed (map : TreeMap) (low high least turns total : ℕ) (words : List ℕ) : Type 0 where
  pub tree : Tree
  pub is_at : HangsAt map [] tree words
  pub done : List Cell
  pub rest : List Cell
  pub cells : cells_of tree ≡ done ++ rest
  pub below : IsBelow least done
  pub from : IsFrom least rest
  pub sum : total ≡ sum_cells (counted low high) done
  pub count : turns + length rest ≤ map.arena.blocks

-- all cells are summed
pub record IsTotal (map : TreeMap) (low high total : ℕ) (words : List ℕ) : Type 0 where
  pub tree : Tree
  pub is_at : HangsAt map [] tree words
  pub sum : total ≡ sum_cells (counted low high) (cells_of tree)
