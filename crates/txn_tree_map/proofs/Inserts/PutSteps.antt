-- A new cell put into the tree, in one word list.
use Rattle.txn_tree_map.proofs.Common.{◌≡◌, ◌≢◌, ℕ, ◌+◌, ◌<◌, ◌≤◌, List, ◌∷◌, ◌++◌, length, slice_get, slice_set, true, ◌⊎◌, inl, inr, refl, sym, ap, ◌∙◌}
use Rattle.txn_tree_map.proofs.Common.{subst, arith, append_assoc, true≢false, length-set, AllByRecursion, get_set_same, get_set_other, KeepsOthers, block_at}
use Rattle.txn_tree_map.proofs.Common.{IsInBlock, Cell, has_block, times_in, times-append, times_has, has_times, has_not, all_append, all_first, all_last}
use Rattle.txn_tree_map.proofs.Common.{same_block, TreeMap, Tree, name_of, cells_of, HasNode, IsRising, Node, place_at_end, before_of, after_of, IsHung}
use Rattle.txn_tree_map.proofs.Common.{HangsAt, IsKeyOrName, IsSeat, IsNameIn, IsWhole, Splits, CanPut, IsPut, IsWordIn}
use Rattle.std.proofs.Common.{zero, suc}
use Rattle.txn_tree_map.specs.Changes.{IsRootOrIn}
use Rattle.txn_tree_map.proofs.Held.Rising.{below_other, above_other, rising_first, rising_last, rising_put}
use Rattle.txn_tree_map.proofs.Held.Trees.{count_in, count_on, times_cells, node_stays, spelled_stays, hung_stays, one_tree}
use Rattle.txn_tree_map.proofs.Held.Places.{at_once, at_below, at_outside, at_cells, at_times}
use Rattle.txn_tree_map.proofs.Searches.SearchSteps.{around_node}
use Rattle.txn_tree_map.proofs.Searches.SearchCalls.{laid_alike}
use Rattle.txn_tree_map.proofs.Held.Hanging.{hung_here, place_mine, keeps_set, keeps_then}

-- a word that names a subtree is in its block
pub name_in : {map : TreeMap} {block : ℕ} {tree : Tree} {a : ℕ} (k : IsNameIn map block tree a) → IsInBlock map.arena k.owner a
name_in k = omega (arith, k.place)

module _ {map : TreeMap} {key : ℕ} (value : ℕ) {block place name : ℕ} {r : List ℕ} (can : CanPut map key block r) (seat : IsSeat map key place name r) where
  -- the cells that were there
  abbrev pub cells_there : List Cell
  cells_there = before_of can.missing.path ++ after_of can.missing.path

  same_cells : cells_there ≡ before_of seat.path ++ (cells_of seat.rest ++ after_of seat.path)
  same_cells = at_cells seat.is_at can.missing.is_at

  pub seat_times : (b : ℕ) → times_in b cells_there ≡ count_on b seat.path + count_in b seat.rest
  seat_times b = ap (times_in b) same_cells ∙ at_times seat.is_at b

  pub seat_has : (b : ℕ) → 1 ≤ count_on b seat.path + count_in b seat.rest → has_block b cells_there ≡ true
  seat_has b k = times_has b cells_there (omega (arith, seat_times b))

  pub seat_apart : (b : ℕ) → 1 ≤ count_on b seat.path + count_in b seat.rest → b ≢ block
  seat_apart b k e = true≢false (sym (seat_has b k) ∙ ap (λ d. has_block d cells_there) e ∙ can.apart)

  once : (b : ℕ) → count_on b seat.path + count_in b seat.rest ≤ 1
  once = at_once seat.is_at

  abbrev pub with_key : List ℕ
  with_key = slice_set r (block_at map.arena block) key

  abbrev pub with_value : List ℕ
  with_value = slice_set with_key (block_at map.arena block + 1) value

  long : length with_value ≡ length r
  long = length-set with_key (block_at map.arena block + 1) value ∙ length-set r (block_at map.arena block) key

  -- a word outside the block stays
  written_other : (a : ℕ) → ¬ IsInBlock map.arena block a → slice_get with_value a ≡ slice_get r a
  written_other a out =
      get_set_other with_key (block_at map.arena block + 1) a value (λ e. out (omega arith))
      ∙ get_set_other r (block_at map.arena block) a key (λ e. out (omega arith))

  root_other : slice_get with_value map.root ≡ slice_get r map.root
  root_other = written_other map.root (seat.is_at.laid.outside block can.below)

  block_other : {b a : ℕ} → 1 ≤ count_on b seat.path + count_in b seat.rest → IsInBlock map.arena b a → slice_get with_value a ≡ slice_get r a
  block_other {b} {a} k mine = written_other a (λ m. seat_apart b k (same_block map.arena b block a mine m))

  abbrev other : Cell → Type 0
  other c = c.key ≢ key

  -- what hangs at the seat may be parted
  pub put_whole : IsWhole map key block name seat.rest with_value
  put_whole = record {
    laid = laid_alike with_value long seat.is_at.laid;
    is_name = seat.is_name;
    spelled = spelled_stays map.arena r with_value seat.rest (λ b a k mine. block_other (omega arith) mine) seat.is_at.spelled;
    search = rising_first (cells_of seat.rest) (after_of seat.path)
        (rising_last (before_of seat.path) (cells_of seat.rest ++ after_of seat.path) seat.is_at.search);
    heap = seat.is_at.heap;
    other = all_first other (cells_of seat.rest) (after_of seat.path)
        (all_last other (before_of seat.path) (cells_of seat.rest ++ after_of seat.path)
        (subst (AllByRecursion other) same_cells
        (all_append other (before_of can.missing.path) (after_of can.missing.path)
        (below_other key (before_of can.missing.path) can.missing.low) (above_other key (after_of can.missing.path) can.missing.high))));
    lower = seat.lower;
    below = can.below;
    apart = has_not block (cells_of seat.rest)
        (omega (arith, times_cells block seat.rest, seat_times block, not_there (times_in block cells_there) refl));
  }
    where
      not_there : (n : ℕ) → times_in block cells_there ≡ n → times_in block cells_there ≡ 0
      not_there zero e = e
      not_there (suc n) e = absurd (true≢false (sym (times_has block cells_there (omega (arith, e))) ∙ can.apart))

  abbrev pub own : ℕ → Type 0
  own = IsRootOrIn map block cells_there

  pub name_own : {a : ℕ} → IsNameIn map block seat.rest a → own a
  name_own n = inr (
    n.owner,
    elim (n.mine) [
      | inl e ↦ inl e
      | inr m ↦ inr (seat_has n.owner (omega (arith, has_times n.owner (cells_of seat.rest) m, times_cells n.owner seat.rest)))
    ],
    name_in n,
  )

  -- and so is a word of a key or of a name
  pub word_own : {a : ℕ} → IsWordIn map block seat.rest a → (a ≡ map.root)
      ⊎ (IsInBlock map.arena block a ⊎ ((b : ℕ) × (has_block b cells_there ≡ true) × IsKeyOrName map b a))
  word_own {a} n = elim (n.mine) [
    | inl e ↦
        let here : IsKeyOrName map block a = subst (λ d. IsKeyOrName map d a) e n.place in
        inr (inl (omega (arith, here)))
    | inr m ↦ inr (inr (
      n.owner,
      seat_has n.owner (omega (arith, has_times n.owner (cells_of seat.rest) m, times_cells n.owner seat.rest)),
      n.place,
    ))
  ]

  -- the words that are written are the root, the block's and the tree's
  pub place_own : own place
  place_own = elim (place_mine map.arena map.root seat.path) [
    | inl e ↦ inl (seat.at ∙ e)
    | inr d ↦ inr (
      d.0,
      inr (seat_has d.0 (omega (arith, d.1))),
      omega (arith, d.2, seat.at),
    )
  ]

  module _ {u : List ℕ} (split : Splits map key block name with_value u) where
    same_tree : split.tree ≡ seat.rest
    same_tree = one_tree map.arena with_value split.tree seat.rest (split.whole.is_name ∙ sym seat.is_name) split.whole.spelled put_whole.spelled

    kept : KeepsOthers (IsNameIn map block seat.rest) with_value u
    kept = subst (λ z. KeepsOthers (IsNameIn map block z) with_value u) same_tree split.kept

    parts : cells_of seat.rest ≡ cells_of split.left ++ cells_of split.right
    parts = ap cells_of (sym same_tree) ∙ split.cells

    part_times : (b : ℕ) → count_in b seat.rest ≡ count_in b split.left + count_in b split.right
    part_times b =
        let whole : times_in b (cells_of seat.rest) ≡ times_in b (cells_of split.left ++ cells_of split.right) = ap (times_in b) parts in
        omega (
          arith,
          times-append b (cells_of split.left) (cells_of split.right),
          times_cells b seat.rest,
          times_cells b split.left,
          times_cells b split.right,
        )

    -- what the split did not write
    path_kept : {b a : ℕ} → 1 ≤ count_on b seat.path → IsInBlock map.arena b a → slice_get u a ≡ slice_get with_value a
    path_kept {b} {a} k mine = kept.same a (λ n.
        let same : b ≡ n.owner = same_block map.arena b n.owner a mine (name_in n) in
        elim (n.mine) [
          | inl e ↦ seat_apart b (omega arith) (same ∙ e)
          | inr m ↦
              let here : 1 ≤ count_on n.owner seat.path = subst (λ d. 1 ≤ count_on d seat.path) same k in
              omega (arith, has_times n.owner (cells_of seat.rest) m, once n.owner, times_cells n.owner seat.rest)
        ])

    root_kept : slice_get u map.root ≡ slice_get with_value map.root
    root_kept = kept.same map.root (λ n. elim (n.mine) [
      | inl e ↦ seat.is_at.laid.outside n.owner (subst (λ d. d < map.arena.blocks) (sym e) can.below) (name_in n)
      | inr m ↦
          at_outside seat.is_at n.owner (omega (arith, has_times n.owner (cells_of seat.rest) m, times_cells n.owner seat.rest)) (name_in n)
    ])

    hung_u : IsHung map.arena u map.root seat.path (name_of seat.rest)
    hung_u = hung_stays map.arena r u map.root seat.path (name_of seat.rest) (root_kept ∙ root_other)
        (λ b a k mine. path_kept k mine ∙ block_other (omega arith) mine) seat.is_at.hung

    abbrev pub cell : Cell
    cell = record { block = block; key = key; value = value }

    abbrev pub put_words : List ℕ
    put_words = slice_set u (place_at_end map.arena map.root seat.path) (block + 1)

    -- the block's words after the split
    node_u : HasNode map.arena u cell (name_of split.left) (name_of split.right)
    node_u =
        let fits = seat.is_at.laid.arena.blocks block can.below in
        let stays : (a : ℕ) → (a ≡ block_at map.arena block) ⊎ (a ≡ block_at map.arena block + 1)
        → slice_get u a ≡ slice_get with_value a = λ a e. kept.same a (λ n.
        omega (arith, e, n.place)) in
        record {
          below = can.below;
          key = stays (block_at map.arena block) (inl refl)
              ∙ get_set_other with_key (block_at map.arena block + 1) (block_at map.arena block) value
              (λ e. omega arith) ∙ get_set_same r (block_at map.arena block) key (omega arith);
          value = stays (block_at map.arena block + 1) (inr refl)
              ∙ get_set_same with_key (block_at map.arena block + 1) value (omega (arith, length-set r (block_at map.arena block) key));
          left_there = split.left_there.0;
          right_there = split.right_there.0;
        }

    -- the written place is in none of the blocks of the new node and its subtrees
    place_apart : {b a : ℕ} → (b ≡ block) ⊎ (1 ≤ count_in b seat.rest) → IsInBlock map.arena b a → slice_get put_words a ≡ slice_get u a
    place_apart {b} {a} k mine = get_set_other u (place_at_end map.arena map.root seat.path) a (block + 1)
        (λ e. elim (place_mine map.arena map.root seat.path) [
          | inl at ↦ seat.is_at.laid.outside b
              (elim k [ inl z ↦ subst (λ d. d < map.arena.blocks) (sym z) can.below | inr z ↦ at_below seat.is_at b (omega arith) ])
              (subst (IsInBlock map.arena b) (e ∙ at) mine)
          | inr d ↦
              let there : IsInBlock map.arena d.0 a =
              omega (arith, d.2) in
              let same : d.0 ≡ b = same_block map.arena d.0 b a there mine in
              elim k [
                | inl z ↦ seat_apart d.0 (omega (arith, d.1)) (same ∙ z)
                | inr z ↦
                    let here : 1 ≤ count_in d.0 seat.rest = subst (λ y. 1 ≤ count_in y seat.rest) (sym same) z in
                    omega (arith, once d.0, d.1)
              ]
        ])

    pub put_is_at : HangsAt map seat.path (Node split.left cell split.right) put_words
    put_is_at =
        let rising : IsRising ((before_of seat.path ++ cells_of split.left) ++ (cells_of split.right ++ after_of seat.path)) =
        subst IsRising (ap (λ z. before_of seat.path ++ (z ++ after_of seat.path)) parts ∙ around_parts) seat.is_at.search in
        let rises : IsRising ((before_of seat.path ++ cells_of split.left) ++ cell ∷ (cells_of split.right ++ after_of seat.path)) =
        rising_put (before_of seat.path ++ cells_of split.left) (cells_of split.right ++ after_of seat.path) cell rising
        (all_append (λ c. c.key < key) (before_of seat.path) (cells_of split.left) seat.low split.low)
        (all_append (λ c. key < c.key) (cells_of split.right) (after_of seat.path) split.high seat.high) in
        record {
          laid = laid_alike put_words (length-set u (place_at_end map.arena map.root seat.path) (block + 1) ∙ kept.count ∙ long) seat.is_at.laid;
          hung = hung_here map.arena u map.root seat.path (name_of seat.rest) (block + 1) hung_u
              (λ b. omega (arith, once b)) (λ b k. at_outside seat.is_at b (omega arith));
          spelled = (
            node_stays map.arena u put_words (λ a mine. place_apart (inl refl) mine) node_u,
            spelled_stays map.arena u put_words split.left (λ b a k mine. place_apart (inr (omega (arith, part_times b))) mine) split.left_there.1,
            spelled_stays map.arena u put_words split.right (λ b a k mine. place_apart (inr (omega (arith, part_times b))) mine) split.right_there.1,
          );
          search = subst IsRising
              (sym (around_node seat.path split.left split.right cell)) rises;
          high = seat.higher;
          heap = (split.left_lower, split.right_lower, split.left_heap, split.right_heap);
        }
      where
        around_parts : before_of seat.path ++ ((cells_of split.left ++ cells_of split.right) ++ after_of seat.path)
            ≡ (before_of seat.path ++ cells_of split.left) ++ (cells_of split.right ++ after_of seat.path)
        around_parts = ap (λ z. before_of seat.path ++ z) (append_assoc (cells_of split.left) (cells_of split.right) (after_of seat.path))
            ∙ sym (append_assoc (before_of seat.path) (cells_of split.left) (cells_of split.right ++ after_of seat.path))

    pub put_done : IsPut map key value block r put_words
    put_done = record {
      before = can;
      path = seat.path;
      left = split.left;
      right = split.right;
      is_at = put_is_at;
      cells = same_cells ∙ ap (λ z. before_of seat.path ++ (z ++ after_of seat.path)) parts
          ∙ ap (λ z. before_of seat.path ++ z) (append_assoc (cells_of split.left) (cells_of split.right) (after_of seat.path))
          ∙ sym (append_assoc (before_of seat.path) (cells_of split.left) (cells_of split.right ++ after_of seat.path));
      low = all_append (λ c. c.key < key) (before_of seat.path) (cells_of split.left) seat.low split.low;
      kept = keeps_set (block + 1)
          (keeps_then
          (record { count = long; same = λ a no. written_other a (λ m. no (inr (block, inl refl, m))) })
          (record { count = kept.count; same = λ a no. kept.same a (λ n. no (name_own n)) }))
          (subst own seat.at place_own);
    }
