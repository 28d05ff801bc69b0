-- The words that a search reads are the root and words of the tree's own blocks.
use Rattle.txn_tree_map.proofs.Common.{◌≡◌, ℕ, ◌+◌, ◌≤◌, inl, inr, true, List, [], ◌++◌, Option, Some, refl, sym, ap, ◌∙◌, subst, arith, append-nil, block_at}
use Rattle.txn_tree_map.proofs.Common.{Entries, Blocks, IsUsedIn, has_block, one_in, one_here, times_has, has_middle, TreeMap, Named, Tree, name_of, cells_of}
use Rattle.txn_tree_map.proofs.Common.{TreeHolds, tree_part, Leaf, Node, Path, place_at_end, before_of, after_of, HangsAt, IsKeyOrName, IsLink, IsPlace}
use Rattle.txn_tree_map.proofs.Common.{IsPlaceOrKey, IsNamed, IsFoundAt, IsFirstFrom}
use Rattle.txn_alloc.specs.EntryMaps.{IsSeen}
use Rattle.txn_tree_map.proofs.Searches.Passed.{IsPassed}
use Rattle.txn_tree_map.specs.Searches.{IsOfTree}
use Rattle.txn_tree_map.proofs.Summed.{IsNear}
use Rattle.txn_tree_map.proofs.Held.Trees.{count_in, count_on}
use Rattle.txn_tree_map.proofs.Held.Places.{at_tree, at_times, at_cells, at_used}
use Rattle.txn_tree_map.proofs.Searches.SearchSteps.{IsNode, node_named, passed_node}
use Rattle.txn_tree_map.proofs.Held.Hanging.{place_mine}
use Rattle.txn_tree_map.proofs.Searches.FirstSteps.{near_name}
use Rattle.std.specs.FinSet as set

-- a tree has the block of its top
pub node_count : {tree : Tree} {b k : ℕ} → IsNode tree b k → 1 ≤ count_in b tree
node_count {tree} {b} node =
    let whole : count_in b tree ≡ count_in b (Node node.left node.cell node.right) = ap (count_in b) node.is in
    omega (arith, one_here b node.cell node.is_block)

pub top_count : (tree : Tree) (b : ℕ) → name_of tree ≡ b + 1 → 1 ≤ count_in b tree
top_count Leaf b e = absurd (omega arith)
top_count (Node left c right) b e = let one : one_in b c ≡ 1 = one_here b c (omega arith) in omega arith

module _ {map : TreeMap} {s : List ℕ} {path : Path} {tree : Tree} (m : HangsAt map path tree s) where
  pub of_tree : (b : ℕ) → 1 ≤ count_on b path + count_in b tree → IsOfTree map b s
  of_tree b k other_path other n =
      ap (has_block b) (at_cells m n)
      ∙ times_has b (before_of path ++ (cells_of tree ++ after_of path)) (omega (arith, at_times m b))

  -- the place at the end of the path
  pub at_link : IsLink map s (place_at_end map.arena map.root path)
  at_link = elim (place_mine map.arena map.root path) [ inl e ↦ inl e | inr d ↦ inr (d.0, of_tree d.0 (omega (arith, d.1)), inr d.2) ]

  -- the key of the node that hangs there
  pub node_link : {b k : ℕ} → IsNode tree b k → IsLink map s (block_at map.arena b)
  node_link {b} node = inr (b, of_tree b (omega (arith, node_count node)), inl refl)

module _ {map : TreeMap} {key floor : ℕ} {s : List ℕ} {p n : ℕ} (h : IsPassed map key floor p n s) where
  pub passed_place : (a : ℕ) → IsPlace p s a → IsLink map s a
  passed_place a e = subst (IsLink map s) (sym (e ∙ h.at)) (at_link h.is_at)

  pub passed_near : (b k : ℕ) → IsNamed map p b k s → (a : ℕ) → IsPlaceOrKey map p b s a → IsLink map s a
  passed_near b k named a (inl e) = passed_place a e
  passed_near b k named a (inr e) = subst (IsLink map s) (sym e) (node_link h.is_at (passed_node key floor b k h named))

module _ {map : TreeMap} {least : ℕ} {s : List ℕ} {best : Option Named} {p n : ℕ} (h : IsNear map least best p n s) where
  pub near_place : (a : ℕ) → IsPlace p s a → IsLink map s a
  near_place a e = subst (IsLink map s) (sym (e ∙ h.at)) (at_link h.is_at)

  pub near_near : (b k : ℕ) → IsNamed map p b k s → (a : ℕ) → IsPlaceOrKey map p b s a → IsLink map s a
  near_near b k named a (inl e) = near_place a e
  near_near b k named a (inr e) =
      subst (IsLink map s) (sym e) (node_link h.is_at
      (node_named map.arena s h.rest b k (near_name least (b + 1) h named.0) h.is_at.spelled named.1))

-- the block where a key was found
pub found_of : {map : TreeMap} {key p b : ℕ} {s : List ℕ} → IsFoundAt map key p b s → IsOfTree map b s
found_of {b} h = of_tree h.is_at b (omega (arith, one_here b h.cell h.is_block))

pub found_place : {map : TreeMap} {key p b : ℕ} {s : List ℕ} → IsFoundAt map key p b s → IsLink map s p
found_place {map} {s} h = subst (IsLink map s) (sym h.at) (at_link h.is_at)

-- the block of the first node from a key on
pub nearest_of : {map : TreeMap} {least : ℕ} (node : Named) {s : List ℕ} → IsFirstFrom map least (Some node) s → IsOfTree map node.block s
nearest_of node h other_path other n =
    ap (has_block node.block) (at_cells h.is_at n
    ∙ append-nil (cells_of h.tree) ∙ h.cells ∙ ap (λ z. h.lows ++ z) h.first.2)
    ∙ has_middle node.block h.lows (h.first.1) (h.first.0) h.first.3

-- a block of the tree is used
module _ {map : TreeMap} {s : List ℕ} {f : Entries} {u : Blocks} (hold : TreeHolds map s f u) where
  pub tree_used : (b : ℕ) → IsOfTree map b s → set.contains u b ≡ true
  tree_used b of = at_used (at_tree map s f u hold) hold b ∙ of [] hold.tree (at_tree map s f u hold)

  pub tree_uses : (b : ℕ) → IsOfTree map b s → IsUsedIn (tree_part map) s b
  tree_uses b of = (f, u, hold, tree_used b of)

  -- so what a search reads is the map's own
  pub word_seen : (first : ℕ) (IsKey : ℕ → Type 0) (b a : ℕ) → IsOfTree map b s → IsKeyOrName map b a → IsSeen (tree_part map) first IsKey s a
  word_seen first IsKey b a of k = inr (b, tree_uses b of, elim k [ inl e ↦ inl e | inr d ↦ inr (inl d) ])

  pub link_seen : (first : ℕ) (IsKey : ℕ → Type 0) (a : ℕ) → IsLink map s a → IsSeen (tree_part map) first IsKey s a
  link_seen first IsKey a (inl e) = inl e
  link_seen first IsKey a (inr (b, of, k)) = word_seen first IsKey b a of k
