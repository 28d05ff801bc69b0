-- Another value at a key that was found.
use Rattle.txn_tree_map.proofs.Common.{◌≡◌, ◌≢◌, ℕ, ◌+◌, ◌<◌, ◌≤◌, true, List, [], ◌∷◌, ◌++◌, slice_get, slice_set, refl, sym, ap, ◌∙◌, subst, arith}
use Rattle.txn_tree_map.proofs.Common.{true≢false, dite, ℕ_discrete, length-set, get_set_same, get_set_other, block_at, IsInBlock, Cell, Entries, Blocks}
use Rattle.txn_tree_map.proofs.Common.{value_of, has_block, HoldsApart, free_kept, same_block, all_append, value_less, has_middle, less_block, insert_same}
use Rattle.txn_tree_map.proofs.Common.{insert_other, one_here, TreeMap, cells_of, IsRising, TreeHolds, tree_part, Node, before_of, after_of, HangsAt, IsBelow}
use Rattle.txn_tree_map.proofs.Common.{IsFoundAt}
use Rattle.txn_tree_map.proofs.Held.Rising.{rising_cut, rising_put, rising_below, rising_above, value_there}
use Rattle.txn_tree_map.proofs.Held.Trees.{count_in, count_on, spelled_stays, hung_stays}
use Rattle.txn_tree_map.proofs.Held.Places.{at_once, at_below, at_value, at_used}
use Rattle.txn_tree_map.proofs.Searches.SearchSteps.{node_order, around_node}
use Rattle.txn_tree_map.proofs.Searches.SearchCalls.{laid_alike}
use Rattle.txn_tree_map.proofs.Maps.{holds_at}
use Rattle.std.specs.FinSet as set
use Rattle.std.specs.FinMap as entry_map

module _ {map : TreeMap} {key p b : ℕ} (x : ℕ) {s : List ℕ} (h : IsFoundAt map key p b s) where
  abbrev whole_count : ℕ → ℕ
  whole_count d = count_on d h.path + count_in d (Node h.left h.cell h.right)

  found_one : 1 ≤ whole_count h.cell.block
  found_one = omega (arith, one_here h.cell.block h.cell refl)

  -- the block where the key was found is one of the tree's
  pub found_below : b < map.arena.blocks
  found_below = subst (λ d. d < map.arena.blocks) h.is_block (at_below h.is_at h.cell.block found_one)

  pub found_used : {f : Entries} {u : Blocks} → TreeHolds map s f u → set.contains u b ≡ true
  found_used hold = at_used h.is_at hold b
      ∙ ap (has_block b) (around_node h.path h.left h.right h.cell)
      ∙ has_middle b (before_of h.path ++ cells_of h.left) (cells_of h.right ++ after_of h.path) h.cell h.is_block

  -- the cells below the key
  pub found_low : IsBelow key (before_of h.path ++ cells_of h.left)
  found_low =
      let order = node_order h.path h.left h.right h.cell h.is_at.search in
      all_append (λ d. d.key < key) (before_of h.path) (cells_of h.left)
      (subst (λ k. IsBelow k (before_of h.path)) h.is_key order.before) (subst (λ k. IsBelow k (cells_of h.left)) h.is_key order.left)

  abbrev pub valued : Cell
  valued = record { block = h.cell.block; key = h.cell.key; value = x }

  abbrev pub with_value : List ℕ
  with_value = slice_set s (block_at map.arena b + 1) x

  value_in : (a : ℕ) → ¬ IsInBlock map.arena b a → slice_get with_value a ≡ slice_get s a
  value_in a out = get_set_other s (block_at map.arena b + 1) a x (λ e. out (omega arith))

  other_block : {d a : ℕ} → d ≢ b → IsInBlock map.arena d a → slice_get with_value a ≡ slice_get s a
  other_block {d} {a} ne mine = value_in a (λ m. ne (same_block map.arena d b a mine m))

  -- other blocks of the tree are other blocks
  apart : (d : ℕ) → 1 ≤ count_on d h.path + count_in d h.left + count_in d h.right → d ≢ b
  apart d k e =
      let same : d ≡ h.cell.block = e ∙ sym h.is_block in
      omega (arith, at_once h.is_at d, one_here d h.cell (sym same))

  at_word : (j : ℕ) → j < 4 → j ≢ 1 → slice_get with_value (block_at map.arena h.cell.block + j) ≡ slice_get s (block_at map.arena h.cell.block + j)
  at_word j lt ne = get_set_other s (block_at map.arena b + 1) (block_at map.arena h.cell.block + j) x (λ e. ne (omega (arith, h.is_block)))

  pub at_valued : HangsAt map h.path (Node h.left valued h.right) with_value
  at_valued =
      let node = h.is_at.spelled.0 in
      let zero_on : block_at map.arena h.cell.block + 0 ≡ block_at map.arena h.cell.block = omega arith in
      record {
        laid = laid_alike with_value (length-set s (block_at map.arena b + 1) x) h.is_at.laid;
        hung = hung_stays map.arena s with_value map.root h.path (h.cell.block + 1) (value_in map.root (h.is_at.laid.outside b found_below))
            (λ d a k mine. other_block (apart d (omega arith)) mine) h.is_at.hung;
        spelled = (
          record {
            below = node.below;
            key = subst (λ z. slice_get with_value z ≡ slice_get s z) zero_on (at_word 0 (omega arith) (λ e. omega arith)) ∙ node.key;
            value = ap (λ d. slice_get with_value (block_at map.arena d + 1)) h.is_block ∙ get_set_same s (block_at map.arena b + 1) x (omega (
              arith,
              h.is_at.laid.arena.blocks b found_below,
            ));
            left_there = at_word 2 (omega arith) (λ e. omega arith) ∙ node.left_there;
            right_there = at_word 3 (omega arith) (λ e. omega arith) ∙ node.right_there;
          },
          spelled_stays map.arena s with_value h.left (λ d a k mine. other_block (apart d (omega arith)) mine) h.is_at.spelled.1,
          spelled_stays map.arena s with_value h.right (λ d a k mine. other_block (apart d (omega arith)) mine) h.is_at.spelled.2,
        );
        search =
            let xs = before_of h.path ++ cells_of h.left in
            let ys = cells_of h.right ++ after_of h.path in
            let rising : IsRising (xs ++ h.cell ∷ ys) =
            subst IsRising (around_node h.path h.left h.right h.cell) h.is_at.search in
            subst IsRising (sym (around_node h.path h.left h.right valued))
            (rising_put xs ys valued (rising_cut xs (h.cell ∷ []) ys rising) (rising_below xs ys h.cell rising) (rising_above xs ys h.cell rising));
        high = h.is_at.high;
        heap = h.is_at.heap;
      }

  -- the map with the value
  pub valued_holds : {f : Entries} {u : Blocks} → TreeHolds map s f u → TreeHolds map with_value (entry_map.insert f key x) u
  valued_holds {f} {u} hold =
      let xs : List Cell = before_of h.path ++ cells_of h.left in
      let ys : List Cell = cells_of h.right ++ after_of h.path in
      let old = around_node h.path h.left h.right h.cell in
      let new = around_node h.path h.left h.right valued in
      holds_at (entry_map.insert f key x) u at_valued
      (λ k. dite (ℕ_discrete k key)
      (λ e. subst (λ q. entry_map.get (entry_map.insert f key x) q
      ≡ value_of q (before_of h.path ++ (cells_of (Node h.left valued h.right) ++ after_of h.path))) (sym e)
      (insert_same f key x ∙ sym (ap (value_of key) new ∙ value_there key xs ys valued h.is_key found_low)))
      (λ ne. insert_other f key x k ne ∙ at_value h.is_at hold k ∙ ap (value_of k) old
      ∙ sym (value_less k xs ys h.cell (λ e. ne (sym e ∙ h.is_key)))
      ∙ value_less k xs ys valued (λ e. ne (sym e ∙ h.is_key)) ∙ ap (value_of k) (sym new)))
      (λ d. at_used h.is_at hold d ∙ ap (has_block d) old
      ∙ same_blocks d xs ys ∙ ap (has_block d) (sym new))
    where
      same_blocks : (d : ℕ) (xs ys : List Cell) → has_block d (xs ++ h.cell ∷ ys) ≡ has_block d (xs ++ valued ∷ ys)
      same_blocks d xs ys = dite (ℕ_discrete h.cell.block d)
          (λ e. has_middle d xs ys h.cell e ∙ sym (has_middle d xs ys valued e))
          (λ ne. sym (less_block d xs ys h.cell ne) ∙ less_block d xs ys valued ne)

  pub inserted_old : {f : Entries} {u v : Blocks} → HoldsApart (tree_part map) s f u v → HoldsApart (tree_part map) with_value (entry_map.insert f key x) u v
  inserted_old {v} hold = record {
    map = valued_holds hold.map;
    free_lists = free_kept map.arena s with_value v hold.free_lists (length-set s (block_at map.arena b + 1) x)
        (λ c head. value_in c (λ m. h.is_at.laid.arena.outside b c found_below m head))
        (λ d c free mine. other_block (λ e. true≢false (sym free ∙ ap (set.contains v) e ∙ hold.apart b (found_used hold.map))) mine);
    apart = hold.apart;
  }
