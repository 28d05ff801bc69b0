-- The steps of the search for the first node from a key on, in one word list.
use Rattle.txn_tree_map.proofs.Common.{◌≡◌, ℕ, ◌+◌, ◌<◌, ◌≤◌, Bool, true, false, nat_lt, nat_le, List, [], ◌∷◌, ◌++◌, slice_get, Option, Some, None, refl, sym}
use Rattle.txn_tree_map.proofs.Common.{ap, ◌∙◌, arith, rules, if◌then◌else◌, length-append, same_Some, block_at, TreeMap, Named, Tree, name_of, cells_of, Leaf}
use Rattle.txn_tree_map.proofs.Common.{before_of, after_of, HangsAt, HasTop, IsNamed, IsFirstFrom}
use Rattle.txn_tree_map.proofs.Plugs.{plug}
use Rattle.txn_tree_map.proofs.Summed.{IsNear}
use Rattle.txn_tree_map.proofs.Held.Trees.{cells_plug}
use Rattle.txn_tree_map.proofs.Held.Places.{at_room, at_name, at_root}
use Rattle.txn_tree_map.proofs.Searches.SearchSteps.{IsNode, node_named, leaf_named, leaf_short, step_down, steps_down, low_down, from_down}

module _ {map : TreeMap} (least : ℕ) {s : List ℕ} where
  pub near_none : {tree : Tree} → HangsAt map [] tree s → IsNear map least None map.root 0 s
  near_none {tree} m = record {
    path = [];
    rest = tree;
    is_at = m;
    at = refl;
    low = tt;
    high = tt;
    first = refl;
    count = omega (arith, at_room map s [] tree m, length-append (cells_of tree) []);
  }

  pub near_top : {best : Option Named} {p n : ℕ} → IsNear map least best p n s → HasTop map p s
  near_top h = record {
    laid = h.is_at.laid;
    tree = h.rest;
    head = (ap (slice_get s) h.at ∙ at_name h.is_at, h.is_at.spelled);
  }

  near_leaf : {best : Option Named} {p n : ℕ} (h : IsNear map least best p n s) → h.rest ≡ Leaf → IsFirstFrom map least best s
  near_leaf h e = record {
    tree = plug h.path h.rest;
    is_at = at_root h.is_at;
    lows = before_of h.path;
    highs = after_of h.path;
    cells = cells_plug h.path h.rest ∙ ap (λ t. before_of h.path ++ (cells_of t ++ after_of h.path)) e;
    low = h.low;
    high = h.high;
    first = h.first;
  }

  pub near_name : {best : Option Named} {p n : ℕ} (m : ℕ) (h : IsNear map least best p n s) → slice_get s p ≡ Some m → name_of h.rest ≡ m
  near_name m h e = same_Some (name_of h.rest) m (sym (at_name h.is_at) ∙ ap (slice_get s) (sym h.at) ∙ e)

  pub near_end : {best : Option Named} {p n : ℕ} → IsNear map least best p n s → slice_get s p ≡ Some 0 → IsFirstFrom map least best s
  near_end h e = near_leaf h (leaf_named h.rest (near_name 0 h e))

  pub near_all : {best : Option Named} {p n : ℕ} → map.arena.blocks ≤ n → IsNear map least best p n s → IsFirstFrom map least best s
  near_all le h = near_leaf h (leaf_short h.rest (omega (arith, h.count)))

  -- one node is passed
  pub near_down : {best : Option Named} {p n : ℕ} (b k : ℕ) → IsNear map least best p n s → IsNamed map p b k s
      → IsNear map least (if nat_lt k least then best else Some (record { block = b; key = k }))
      (block_at map.arena b + (if nat_le least k then 2 else 3)) (n + 1) s
  near_down {best} {n} b k h named =
      let node : IsNode h.rest b k = node_named map.arena s h.rest b k (near_name (b + 1) h named.0) h.is_at.spelled named.1 in
      go (nat_lt k least) refl node
    where
      go : (t : Bool) → nat_lt k least ≡ t → IsNode h.rest b k
          → IsNear map least (if nat_lt k least then best else Some (record { block = b; key = k }))
          (block_at map.arena b + (if nat_le least k then 2 else 3)) (n + 1) s
      go true e node =
          let lt : k < least = grind (arith, rules, e) in
          let side : nat_le least k ≡ false = grind (arith, rules, lt) in
          let n = steps_down false h.is_at node in
          rw (e, side) (record {
            path = step_down false n.left n.cell n.right ∷ h.path;
            rest = n.right;
            is_at = n.is_at;
            at = n.at;
            low = low_down false least h.path n.left n.right n.cell h.low n.order.left (λ e. omega (arith, n.is_key));
            high = h.high;
            first = h.first;
            count = omega (arith, h.count, n.shorter);
          })
      go false e node =
          let le : least ≤ k = grind (arith, rules, e) in
          let side : nat_le least k ≡ true = grind (arith, rules, le) in
          let n = steps_down true h.is_at node in
          rw (e, side) (record {
            path = step_down true n.left n.cell n.right ∷ h.path;
            rest = n.left;
            is_at = n.is_at;
            at = n.at;
            low = low_down true least h.path n.left n.right n.cell h.low n.order.left (λ e. absurd (cc));
            high = from_down least h.path n.left n.right n.cell (omega (arith, n.is_key)) n.order.right h.high;
            first = (n.cell, cells_of n.right ++ after_of h.path, refl, n.is_block, n.is_key);
            count = omega (arith, h.count, n.shorter);
          })
