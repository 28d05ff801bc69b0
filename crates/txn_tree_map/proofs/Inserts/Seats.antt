-- The place where a new node hangs, in one word list.
use Rattle.txn_tree_map.proofs.Common.{◌≡◌, ◌≢◌, ℕ, ◌+◌, ◌^◌, ◌<◌, ◌≤◌, List, ◌∷◌, ◌++◌, slice_get, Some, refl, ap, ◌∙◌, subst, arith, AllByRecursion, Cell}
use Rattle.txn_tree_map.proofs.Common.{all_append, all_first, all_last, TreeMap, priority_of, rank_of, cells_of, Leaf, Node, before_of, after_of, HangsAt}
use Rattle.txn_tree_map.proofs.Common.{IsNamed, IsMissing, IsSeat}
use Rattle.txn_tree_map.proofs.Searches.Passed.{IsPassed}
use Rattle.txn_tree_map.proofs.Held.Rising.{below_other, above_other}
use Rattle.txn_tree_map.proofs.Held.Places.{priority_small, at_root, at_cells}
use Rattle.txn_tree_map.proofs.Searches.SearchSteps.{IsNode, leaf_named, leaf_short, passed_tree, passed_node, rest_name}
use Rattle.txn_tree_map.proofs.Held.Priorities.{priorities_differ}

module _ (map : TreeMap) (key : ℕ) (s : List ℕ) where
  abbrev floor : ℕ
  floor = priority_of key + 1

  pub passed_missing : IsMissing map key s → IsPassed map key floor map.root 0 s
  passed_missing h = passed_tree key floor (at_root h.is_at) (omega (arith, priority_small key))

  -- a node of the tree has another key
  pub missing_other : {p n : ℕ} (b k : ℕ) → IsMissing map key s → IsPassed map key floor p n s → IsNamed map p b k s → k ≢ key
  missing_other b k none h named =
      let node : IsNode h.rest b k = passed_node key floor b k h named in
      let other : Cell → Type 0 = λ c. c.key ≢ key in
      let all : AllByRecursion other (before_of h.path ++ (cells_of h.rest ++ after_of h.path)) =
      subst (AllByRecursion other) (at_cells h.is_at none.is_at)
      (all_append other (before_of none.path) (after_of none.path) (below_other key (before_of none.path) none.low)
      (above_other key (after_of none.path) none.high)) in
      let here : AllByRecursion other (cells_of h.rest) =
      all_first other (cells_of h.rest) (after_of h.path) (all_last other (before_of h.path) (cells_of h.rest ++ after_of h.path) all) in
      let mine : AllByRecursion other (cells_of (Node node.left node.cell node.right)) = subst (λ t. AllByRecursion other (cells_of t)) node.is here in
      let ne : node.cell.key ≢ key = (all_last other (cells_of node.left) (node.cell ∷ cells_of node.right) mine).0 in
      subst (λ (d : ℕ). d ≢ key) node.is_key ne

  seat_leaf : {p n : ℕ} (h : IsPassed map key floor p n s) → h.rest ≡ Leaf → IsSeat map key p 0 s
  seat_leaf h e = record {
    path = h.path;
    rest = Leaf;
    is_at = subst (λ t. HangsAt map h.path t s) e h.is_at;
    at = h.at;
    low = h.low;
    high = h.high;
    higher = h.higher;
    lower = omega arith;
    is_name = refl;
  }

  pub seat_end : {p n : ℕ} → IsPassed map key floor p n s → slice_get s p ≡ Some 0 → IsSeat map key p 0 s
  seat_end h e = seat_leaf h (leaf_named h.rest (rest_name key floor 0 h e))

  pub seat_all : {p n : ℕ} → map.arena.blocks ≤ n → IsPassed map key floor p n s → IsSeat map key p 0 s
  seat_all le h = seat_leaf h (leaf_short h.rest (omega (arith, h.count)))

  -- a node of lower priority
  pub seat_here : {p n : ℕ} (b k : ℕ) → key < 2 ^ 64 → k < 2 ^ 64 → IsMissing map key s → IsPassed map key floor p n s
      → IsNamed map p b k s → priority_of k ≤ priority_of key → IsSeat map key p (b + 1) s
  seat_here b k low_key low_k none h named le =
      let node : IsNode h.rest b k = passed_node key floor b k h named in
      let ne : priority_of k ≢ priority_of key = λ e. missing_other b k none h named (priorities_differ k key low_k low_key e) in
      let rank : rank_of h.rest ≡ priority_of k + 1 = ap rank_of node.is ∙ ap (λ d. priority_of d + 1) node.is_key in
      record {
        path = h.path;
        rest = h.rest;
        is_at = h.is_at;
        at = h.at;
        low = h.low;
        high = h.high;
        higher = h.higher;
        lower = omega arith;
        is_name = rest_name key floor (b + 1) h named.0;
      }
