-- A cell cut out of the tree, in one word list.
use Rattle.txn_tree_map.proofs.Common.{◌≡◌, ◌≢◌, ℕ, ◌+◌, ◌^◌, ◌≤◌, true, List, [], ◌∷◌, ◌++◌, slice_get, Some, ◌⊎◌, inl, inr, refl, sym, ap, ◌∙◌, subst, arith}
use Rattle.txn_tree_map.proofs.Common.{append_assoc, true≢false, dite, ℕ_discrete, KeepsOthers, Arena, block_at, IsHead, IsInBlock, FreeListsHold, Lacks, Gives}
use Rattle.txn_tree_map.proofs.Common.{IsAnyHeadOrIn, Cell, Entries, Blocks, value_of, has_block, HoldsApart, out_itself, free_kept, free_below, same_block}
use Rattle.txn_tree_map.proofs.Common.{value_less, less_block, has_not, has_times, times_in, times-append, one_in, one_here, TreeMap, Tree, priority_of}
use Rattle.txn_tree_map.proofs.Common.{name_of, rank_of, cells_of, IsAbove, IsRising, TreeHolds, tree_part, Node, place_at_end, before_of, after_of, HangsAt}
use Rattle.txn_tree_map.proofs.Common.{IsFoundAt, IsHoleOrName, ArePair, Joins, IsCut}
use Rattle.txn_alloc.specs.EntryMaps.{RemovesOne}
use Rattle.txn_alloc.proofs.Sets.{out_both, contains-remove_other}
use Rattle.txn_alloc.proofs.FreeLists.Lists.{one_set}
use Rattle.txn_alloc.proofs.Maps.Cells.{remove_same, remove_other}
use Rattle.txn_tree_map.proofs.Held.Rising.{rising_first, rising_last, rising_cut, rising_above, value_between}
use Rattle.txn_tree_map.proofs.Held.Trees.{count_in, count_on, times_cells, one_tree, hung_again}
use Rattle.txn_tree_map.proofs.Held.Places.{at_once, at_outside, at_within, at_value, at_used, used_from, high_lower}
use Rattle.txn_tree_map.proofs.Searches.SearchSteps.{around_node, found_value}
use Rattle.txn_tree_map.proofs.Searches.SearchCalls.{laid_alike}
use Rattle.txn_tree_map.proofs.Held.Hanging.{place_mine, times_around}
use Rattle.txn_tree_map.proofs.Searches.Gets.{used_below}
use Rattle.txn_tree_map.proofs.Maps.{holds_at, tree_stands}
use Rattle.txn_tree_map.proofs.Inserts.Values.{found_below, found_used, found_low}
use Rattle.std.specs.FinSet as set
use Rattle.std.specs.FinMap as entry_map

module _ {map : TreeMap} {key place b : ℕ} {s : List ℕ} (h : IsFoundAt map key place b s) where
  abbrev node : Tree
  node = Node h.left h.cell h.right

  abbrev pub cells_below : List Cell
  cells_below = cells_of h.left ++ cells_of h.right

  once : (d : ℕ) → count_on d h.path + (count_in d h.left + one_in d h.cell + count_in d h.right) ≤ 1
  once = at_once h.is_at

  pub below_times : (d : ℕ) → times_in d cells_below ≡ count_in d h.left + count_in d h.right
  below_times d = omega (arith, times-append d (cells_of h.left) (cells_of h.right), times_cells d h.left, times_cells d h.right)

  -- the cells below the key's, and above
  abbrev lows : List Cell
  lows = before_of h.path ++ cells_of h.left

  abbrev highs : List Cell
  highs = cells_of h.right ++ after_of h.path

  whole_rises : IsRising (lows ++ h.cell ∷ highs)
  whole_rises = subst IsRising (around_node h.path h.left h.right h.cell) h.is_at.search

  rest_rises : IsRising (lows ++ highs)
  rest_rises = rising_cut lows (h.cell ∷ []) highs whole_rises

  around_two : before_of h.path ++ (cells_below ++ after_of h.path) ≡ lows ++ highs
  around_two = ap (λ z. before_of h.path ++ z) (append_assoc (cells_of h.left) (cells_of h.right) (after_of h.path))
      ∙ sym (append_assoc (before_of h.path) (cells_of h.left) highs)

  -- the place is in no block below the cell
  pub place_out : (d : ℕ) → has_block d cells_below ≡ true → ¬ IsInBlock map.arena d place
  place_out d k mine =
      let there = has_times d cells_below k in
      elim (place_mine map.arena map.root h.path) [
        | inl e ↦ at_outside h.is_at d (omega (arith, below_times d)) (subst (IsInBlock map.arena d) (h.at ∙ e) mine)
        | inr q ↦
            let own : IsInBlock map.arena q.0 place =
            omega (arith, q.2, h.at) in
            let same : q.0 ≡ d = same_block map.arena q.0 d place own mine in
            let here : 1 ≤ count_on d h.path = subst (λ z. 1 ≤ count_on z h.path) same q.1 in
            omega (arith, below_times d, once d)
      ]

  -- the two subtrees may be joined there
  pub found_pair : ArePair map place (name_of h.left) (name_of h.right) h.left h.right s
  found_pair = record {
    laid = h.is_at.laid;
    left_name = refl;
    right_name = refl;
    left_spelled = h.is_at.spelled.1;
    right_spelled = h.is_at.spelled.2;
    search = rising_first cells_below (after_of h.path) (rising_last (before_of h.path) (cells_below ++ after_of h.path)
        (subst IsRising (sym around_two) rest_rises));
    left_heap = h.is_at.heap.2;
    right_heap = h.is_at.heap.3;
    hole_in = omega (arith, at_within h.is_at, h.at);
    hole_out = place_out;
  }

  module _ (value : ℕ) (there : slice_get s (block_at map.arena b + 1) ≡ Some value) {t : List ℕ}
      (j : Joins map place (name_of h.left) (name_of h.right) s t) where
    same_first : j.first ≡ h.left
    same_first = one_tree map.arena s j.first h.left j.pair.left_name j.pair.left_spelled h.is_at.spelled.1

    same_second : j.second ≡ h.right
    same_second = one_tree map.arena s j.second h.right j.pair.right_name j.pair.right_spelled h.is_at.spelled.2

    same_both : cells_of j.first ++ cells_of j.second ≡ cells_below
    same_both = ap (λ z. cells_of z ++ cells_of j.second) same_first ∙ ap (λ z. cells_of h.left ++ cells_of z) same_second

    kept : KeepsOthers (IsHoleOrName map place cells_below) s t
    kept = subst (λ cs. KeepsOthers (IsHoleOrName map place cs) s t) same_both j.kept

    joined_cells : cells_below ≡ cells_of j.tree
    joined_cells = sym same_both ∙ j.cells

    -- a word of the path's blocks but the place, and the root if it is not the place, stays
    path_kept : {d a : ℕ} → 1 ≤ count_on d h.path → IsInBlock map.arena d a → a ≢ place_at_end map.arena map.root h.path → slice_get t a ≡ slice_get s a
    path_kept {d} {a} k mine ne = kept.same a (λ m. elim m [
      | inl e ↦ ne (e ∙ h.at)
      | inr q ↦
          let own : IsInBlock map.arena q.0 a =
          omega (arith, q.2) in
          let same : q.0 ≡ d = same_block map.arena q.0 d a own mine in
          let there : 1 ≤ times_in d cells_below = subst (λ z. 1 ≤ times_in z cells_below) same (has_times q.0 cells_below q.1) in
          omega (arith, below_times d, once d)
    ])

    root_kept : map.root ≢ place_at_end map.arena map.root h.path → slice_get t map.root ≡ slice_get s map.root
    root_kept ne = kept.same map.root (λ m. elim m [
      | inl e ↦ ne (e ∙ h.at)
      | inr q ↦
          let own : IsInBlock map.arena q.0 map.root =
          omega (arith, q.2) in
          at_outside h.is_at q.0 (omega (arith, has_times q.0 cells_below q.1, below_times q.0)) own
    ])

    pub cut_at : HangsAt map h.path j.tree t
    cut_at =
        let lower =
        j.lower (priority_of h.cell.key) (omega (arith, ap rank_of same_first, h.is_at.heap.0)) (omega (arith, ap rank_of same_second, h.is_at.heap.1)) in
        record {
          laid = laid_alike t kept.count h.is_at.laid;
          hung = hung_again map.arena s t map.root h.path (h.cell.block + 1) (name_of j.tree)
              (λ d. omega (arith, once d)) (λ d k. at_outside h.is_at d (omega arith))
              root_kept (λ d a. path_kept) (ap (slice_get t) (sym h.at) ∙ j.there.0) h.is_at.hung;
          spelled = j.there.1;
          search = subst IsRising (sym around_two ∙ ap (λ z. before_of h.path ++ (z ++ after_of h.path)) joined_cells) rest_rises;
          high = high_lower (2 ^ 64) h.path (rank_of j.tree) (priority_of h.cell.key + 1) (omega arith) h.is_at.high;
          heap = j.heap;
        }

    pub cut_done : IsCut map key place b value s t
    cut_done = record { before = h; value_there = there; tree = j.tree; is_at = cut_at; cells = joined_cells; kept = kept }

-- what is left of the map, before its block is given back
module _ {map : TreeMap} {key place b value : ℕ} {s r : List ℕ} {f : Entries} {u v : Blocks}
    (hold : HoldsApart (tree_part map) s f u v) (c : IsCut map key place b value s r) where
  abbrev h : IsFoundAt map key place b s
  h = c.before

  found_high : IsAbove key (highs h)
  found_high = subst (λ k. IsAbove k (highs h)) h.is_key
      (rising_above (lows h) (highs h) h.cell (whole_rises h))

  cut_cells : before_of h.path ++ (cells_of c.tree ++ after_of h.path) ≡ lows h ++ highs h
  cut_cells = ap (λ z. before_of h.path ++ (z ++ after_of h.path)) (sym c.cells) ∙ around_two h

  old_cells : before_of h.path ++ (cells_of (node h) ++ after_of h.path) ≡ lows h ++ h.cell ∷ highs h
  old_cells = around_node h.path h.left h.right h.cell

  -- the block is in none of the other cells
  block_out : times_in b (lows h ++ highs h) ≡ 0
  block_out =
      let xs = lows h in
      let ys = highs h in
      omega (
        arith,
        times-append b xs ys,
        times-append b (before_of h.path) (cells_of h.left),
        times-append b (cells_of h.right) (after_of h.path),
        times_around b h.path,
        times_cells b h.left,
        times_cells b h.right,
        one_here b h.cell h.is_block,
        once h b,
      )

  pub cut_holds : TreeHolds map r (entry_map.remove f key) (set.remove u b)
  cut_holds =
      let xs = lows h in
      let ys = highs h in
      holds_at (entry_map.remove f key) (set.remove u b) c.is_at
      (λ k. dite (ℕ_discrete k key)
      (λ e. subst (λ q. entry_map.get (entry_map.remove f key) q ≡ value_of q (before_of h.path ++ (cells_of c.tree ++ after_of h.path))) (sym e)
      (remove_same f key ∙ sym (ap (value_of key) cut_cells ∙ value_between key xs ys (found_low 0 h) found_high)))
      (λ ne. remove_other f key k ne ∙ at_value h.is_at hold.map k ∙ ap (value_of k) old_cells
      ∙ sym (value_less k xs ys h.cell (λ e. ne (sym e ∙ h.is_key))) ∙ ap (value_of k) (sym cut_cells)))
      (λ d. dite (ℕ_discrete d b)
      (λ e. subst (λ q. set.contains (set.remove u b) q ≡ has_block q (before_of h.path ++ (cells_of c.tree ++ after_of h.path))) (sym e)
      (out_itself u b ∙ sym (ap (has_block b) cut_cells ∙ has_not b (xs ++ ys) block_out)))
      (λ ne. contains-remove_other u b d ne ∙ at_used h.is_at hold.map d ∙ ap (has_block d) old_cells
      ∙ sym (less_block d xs ys h.cell (λ e. ne (sym e ∙ h.is_block))) ∙ ap (has_block d) (sym cut_cells)))

  -- the written words are no heads, and in no free block
  pub written_used : (a : ℕ) → IsHoleOrName map place (cells_below h) a → (a ≡ map.root)
      ⊎ ((d : ℕ) × (set.contains u d ≡ true) × IsInBlock map.arena d a)
  written_used a k = elim k [
    | inl e ↦ elim (place_mine map.arena map.root h.path) [
      | inl z ↦ inl (e ∙ h.at ∙ z)
      | inr q ↦ inr (
        q.0,
        count_used q.0 (omega (arith, q.1)),
        omega (arith, q.2, h.at),
      )
    ]
    | inr q ↦
        inr (
          q.0,
          count_used q.0 (omega (arith, has_times q.0 (cells_below h) q.1, below_times h q.0)),
          omega (arith, q.2),
        )
  ]
    where
      count_used : (d : ℕ) → 1 ≤ count_on d h.path + (count_in d h.left + one_in d h.cell + count_in d h.right) → set.contains u d ≡ true
      count_used d m = used_from h.is_at hold.map d m

  pub cut_free : FreeListsHold map.arena r v
  cut_free = free_kept map.arena s r v hold.free_lists c.kept.count
      (λ a head. c.kept.same a (λ k. elim (written_used a k) [
        | inl e ↦ hold.map.laid.no_head (subst (IsHead map.arena) e head)
        | inr q ↦ hold.map.laid.arena.outside q.0 a (used_below map s f u q.0 hold.map q.1) q.2 head
      ]))
      (λ d a free mine. c.kept.same a (λ k. elim (written_used a k) [
        | inl e ↦ hold.map.laid.outside d (free_below map.arena s v d hold.free_lists free) (subst (IsInBlock map.arena d) e mine)
        | inr q ↦ let same : q.0 ≡ d = same_block map.arena q.0 d a q.2 mine in
            true≢false (sym free ∙ ap (set.contains v) (sym same) ∙ hold.apart q.0 q.1)
      ]))

  pub cut_lacks : Lacks map.arena b r
  cut_lacks free holds = ap (λ z. set.contains z b) (one_set map.arena r free v holds cut_free) ∙ hold.apart b (found_used 0 h hold.map)

  -- the block was given back
  pub removed_map : {t : List ℕ} → KeepsOthers (IsAnyHeadOrIn map.arena b) r t → TreeHolds map t (entry_map.remove f key) (set.remove u b)
  removed_map {t} others =
      let a : Arena = map.arena in
      let here : TreeHolds map r (entry_map.remove f key) (set.remove u b) = cut_holds in
      tree_stands map r t (entry_map.remove f key) (set.remove u b) here others.count
      (others.same map.root (λ k. elim k [ inl head ↦ here.laid.no_head head | inr mine ↦ here.laid.outside b (found_below 0 h) mine ]))
      (λ d e k mine. others.same e (λ m. elim m [
        | inl head ↦ here.laid.arena.outside d e (used_below map r (entry_map.remove f key) (set.remove u b) d here k) mine head
        | inr z ↦ true≢false (sym k ∙ ap (set.contains (set.remove u b)) (same_block a d b e mine z) ∙ out_itself u b)
      ]))

  pub removed : {t : List ℕ} → Gives map.arena b r t → KeepsOthers (IsAnyHeadOrIn map.arena b) r t → RemovesOne (tree_part map) key value t f u v
  removed gives others =
      record {
        present = found_value value h c.value_there hold.map;
        block = b;
        was_used = found_used 0 h hold.map;
        left = record {
          map = removed_map others;
          free_lists = gives v cut_free;
          apart = λ d k. dite (ℕ_discrete d b)
              (λ e. absurd (true≢false (sym k ∙ ap (set.contains (set.remove u b)) e ∙ out_itself u b)))
              (λ ne. out_both v b d ne (hold.apart d (sym (contains-remove_other u b d ne) ∙ k)));
        };
      }
