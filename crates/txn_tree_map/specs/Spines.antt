-- The right spine of a tree: the nodes on the way from the top down to the greatest key.
use Rattle.std.specs.Prelude.{◌≡◌, ℕ, false, List, [], ◌∷◌, ◌++◌}
use Rattle.txn_tree_map.specs.declared.map.TreeMap.{TreeMap}
use Rattle.txn_tree_map.specs.Trees.Tree.{Leaf}
use Rattle.txn_tree_map.specs.Paths.{Path, before_of, IsBelow, HangsAt}
use Rattle.txn_tree_map.specs.Searches.{IsSeat}

-- each step goes to the right
abbrev pub GoesRight : Path → Type 0
GoesRight [] = Unit {0}
GoesRight (st ∷ path) = (st.left ≡ false) × GoesRight path

-- the blocks of a path, from the top downwards
abbrev pub blocks_on : Path → List ℕ
blocks_on [] = []
blocks_on (st ∷ path) = blocks_on path ++ st.cell.block ∷ []

-- these are the blocks of the map's right spine, and all keys of the map are below this one
pub record HasSpine (map : TreeMap) (key : ℕ) (words blocks : List ℕ) : Type 0 where
  pub path : Path
  pub right : GoesRight path
  pub blocks_are : blocks_on path ≡ blocks
  pub is_at : HangsAt map path Leaf words
  pub below : IsBelow key (before_of path)

-- the key's node hangs at this place, right below these blocks of the spine
pub record IsSeatBelow (map : TreeMap) (key place : ℕ) (words blocks : List ℕ) : Type 0 where
  pub name : ℕ
  pub seat : IsSeat map key place name words
  pub right : GoesRight seat.path
  pub blocks_are : blocks_on seat.path ≡ blocks
