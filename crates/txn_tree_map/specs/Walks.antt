-- How far a walk through the tree's nodes, in the order of their keys, has come.
use Rattle.std.specs.Prelude.{◌≡◌, ℕ, ◌+◌, ◌/◌, ◌≤◌, ◌⊎◌, true, List, [], ◌∷◌, ◌++◌, Option, Some, None, length, if◌then◌else◌}
use Rattle.txn_tree_map.specs.declared.map.TreeMap.{TreeMap}
use Rattle.txn_tree_map.specs.declared.find.Named.{Named}
use Rattle.txn_tree_map.specs.declared.walk.Walk.{Walk}
use Rattle.txn_tree_map.specs.declared.walk.TheConstants.{KEPT}
use Rattle.txn_tree_map.specs.Trees.{Tree, cells_of}
use Rattle.txn_tree_map.specs.Paths.{Path, place_at_end, before_of, after_of, HangsAt, IsBelow}
use Rattle.txn_tree_map.specs.Sums.{IsFrom, IsFirstFrom}

-- the nodes at which a path goes to the left, from the root downwards
abbrev pub lefts_of : Path → List Named
lefts_of [] = []
lefts_of (st ∷ path) =
    lefts_of path ++ (if st.left then record { block = st.cell.block; key = st.cell.key } ∷ [] else [])

-- a walk keeps one node more; it drops none, or the farther half of a full room, and is not whole then
pub record Keeps (node : Named) (old new : Walk) : Type 0 where
  pub gone : List Named
  pub near : List Named
  pub before : old.kept.items ≡ gone ++ near
  pub after : new.kept.items ≡ near ++ node ∷ []
  pub half : (gone ≡ []) ⊎ ((length gone ≡ KEPT / 2) × (length near ≡ KEPT / 2))
  pub whole : new.whole ≡ true → (gone ≡ []) × (old.whole ≡ true)

-- the walk has come to its place: left of it all keys are below this one, and right of it from there on. It keeps the nearest of the nodes
-- at which the way went to the left, all of them if it is whole; and passed so many that no more than the other blocks are left below
pub record IsWalk (map : TreeMap) (walk : Walk) (least passed : ℕ) (words : List ℕ) : Type 0 where
  pub path : Path
  pub rest : Tree
  pub is_at : HangsAt map path rest words
  pub at : walk.place ≡ place_at_end map.arena map.root path
  pub low : IsBelow least (before_of path)
  pub high : IsFrom least (after_of path)
  pub dropped : List Named
  pub kept : lefts_of path ≡ dropped ++ walk.kept.items
  pub whole : walk.whole ≡ true → dropped ≡ []
  pub count : passed + length (cells_of rest) ≤ map.arena.blocks

-- the walk has come to the first node from a key on, and stands right behind it; or to none, and if it is whole there is none
abbrev pub HasCome : TreeMap → Walk → ℕ → Option Named → List ℕ → Type 0
HasCome map walk least (Some node) words =
    IsFirstFrom map least (Some node) words × IsWalk map walk (node.key + 1) 0 words
HasCome map walk least None words = walk.whole ≡ true → IsFirstFrom map least None words
