-- How far a search down the tree has come, and what it found.
use Rattle.txn_tree_map.proofs.Common.{TreeMap, Tree, cells_of, IsAbove, Path, place_at_end, before_of, after_of, HangsAt, IsBelow, IsHigh}
use Rattle.std.specs.Prelude.{◌≡◌, ℕ, ◌+◌, ◌^◌, ◌≤◌, List, length}

-- the search for the key has come to the place, down nodes that all reach as high as the floor,
-- and passed so many that no more than the other blocks are left below it
pub record IsPassed (map : TreeMap) (key floor place passed : ℕ) (words : List ℕ) : Type 0 where
  pub path : Path
  pub rest : Tree
  pub is_at : HangsAt map path rest words
  pub at : place ≡ place_at_end map.arena map.root path
  pub low : IsBelow key (before_of path)
  pub high : IsAbove key (after_of path)
  pub higher : IsHigh (2 ^ 64) path floor
  pub count : passed + length (cells_of rest) ≤ map.arena.blocks
