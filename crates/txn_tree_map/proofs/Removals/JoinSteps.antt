-- The steps by which two trees are joined, in one word list.
use Rattle.txn_tree_map.proofs.Common.{◌≡◌, ℕ, ◌+◌, ◌<◌, ◌≤◌, true, false, List, [], ◌∷◌, ◌++◌, length, slice_get, slice_set, get_or, Some, inl, inr, refl, sym}
use Rattle.txn_tree_map.proofs.Common.{ap, ◌∙◌, subst, arith, append_assoc, length-append, append-nil, Arena, block_at, IsInBlock, Cell, all_append, all_last}
use Rattle.txn_tree_map.proofs.Common.{times_in, times-append, times_has, TreeMap, Tree, priority_of, name_of, rank_of, cells_of, IsSpelled, IsRising, IsHeap}
use Rattle.txn_tree_map.proofs.Common.{IsLaid, Leaf, Node, place_at_end, before_of, after_of, IsHung, IsHigh, Hangs, IsHoleOrName, ArePair, IsJoined}
use Rattle.txn_tree_map.proofs.Common.{IsGathered, Joins, length_below}
use Rattle.txn_tree_map.proofs.Plugs.{plug}
use Rattle.txn_tree_map.proofs.Held.Rising.{rising_once, rising_first, rising_last, rising_above}
use Rattle.txn_tree_map.proofs.Held.Trees.{count_in, count_on, times_cells, cells_plug, all_tree, spelled_stays, hung_plug}
use Rattle.txn_tree_map.proofs.Held.Places.{high_plug}
use Rattle.txn_tree_map.proofs.Searches.SearchSteps.{IsNode, node_named, leaf_named, leaf_short, step_down}
use Rattle.txn_tree_map.proofs.Searches.SearchCalls.{laid_alike, name_below}
use Rattle.txn_tree_map.proofs.Held.Hanging.{times_around, place_mine, hole_within, same_in, hung_here, keeps_set, keeps_none}
use Rattle.txn_tree_map.proofs.Inserts.Descents.{descends, keeps_hung}
use Rattle.txn_tree_map.proofs.Inserts.SplitSteps.{some_word}

module _ {map : TreeMap} {hole left right : ℕ} {first second : Tree} {old : List ℕ} (w : ArePair map hole left right first second old) where
  abbrev pub both_cells : List Cell
  both_cells = cells_of first ++ cells_of second

  pub pair_once : (b : ℕ) → times_in b both_cells ≤ 1
  pair_once b =
      let keyed : Cell → Type 0 = λ c. slice_get old (block_at map.arena c.block) ≡ Some c.key in
      rising_once map.arena old b both_cells
      (all_append keyed (cells_of first) (cells_of second) (all_tree map.arena old keyed (λ c x y n. n.key) first
      w.left_spelled) (all_tree map.arena old keyed (λ c x y n. n.key) second w.right_spelled)) w.search

  pub pair_room : length both_cells ≤ map.arena.blocks
  pair_room =
      let low : Cell → Type 0 = λ c. c.block < map.arena.blocks in
      length_below map.arena.blocks both_cells pair_once
      (all_append low (cells_of first) (cells_of second) (all_tree map.arena old low (λ c x y n. n.below) first
      w.left_spelled) (all_tree map.arena old low (λ c x y n. n.below) second w.right_spelled))

  -- nothing is joined yet
  pub joined_none : IsJoined map hole left right 0 hole left right old old
  joined_none = record {
    first = first;
    second = second;
    pair = w;
    path = [];
    lefts = first;
    rights = second;
    left_name = w.left_name;
    right_name = w.right_name;
    at = refl;
    place_has = get_or old hole 0;
    hung = some_word old hole w.hole_in;
    left_spelled = w.left_spelled;
    right_spelled = w.right_spelled;
    cells = sym (append-nil both_cells);
    left_falls = λ top l r. l;
    right_falls = λ top l r. r;
    left_heap = w.left_heap;
    right_heap = w.right_heap;
    count = omega (arith, pair_room, length-append (cells_of first) (cells_of second));
    kept = keeps_none (IsHoleOrName map hole both_cells) old;
  }

module _ {map : TreeMap} {hole left right turns place left_rest right_rest : ℕ} {old s : List ℕ}
    (h : IsJoined map hole left right turns place left_rest right_rest old s) where
  abbrev cells_both : List Cell
  cells_both = cells_of h.first ++ cells_of h.second

  -- how often a block stands in the three parts
  pub joined_times : (b : ℕ) → count_on b h.path + (count_in b h.lefts + count_in b h.rights) ≡ times_in b cells_both
  joined_times b =
      let whole : times_in b cells_both
      ≡ times_in b (before_of h.path ++ ((cells_of h.lefts ++ cells_of h.rights) ++ after_of h.path)) = ap (times_in b) h.cells in
      omega (
        arith,
        times-append b (before_of h.path) ((cells_of h.lefts ++ cells_of h.rights) ++ after_of h.path),
        times-append b (cells_of h.lefts ++ cells_of h.rights) (after_of h.path),
        times-append b (cells_of h.lefts) (cells_of h.rights),
        times_around b h.path,
        times_cells b h.lefts,
        times_cells b h.rights,
      )

  once : (b : ℕ) → count_on b h.path + (count_in b h.lefts + count_in b h.rights) ≤ 1
  once b = omega (arith, joined_times b, pair_once h.pair b)

  -- the hole is in no block of the trees
  out : (b : ℕ) → 1 ≤ count_on b h.path + (count_in b h.lefts + count_in b h.rights) → ¬ IsInBlock map.arena b hole
  out b k = h.pair.hole_out b (times_has b cells_both (omega (arith, joined_times b)))

  pub joined_within : place < length s
  joined_within = omega (arith, hole_within map.arena s hole h.path h.place_has 0 h.hung, h.at)

  pub joined_own : IsHoleOrName map hole cells_both place
  joined_own = elim (place_mine map.arena hole h.path) [
    | inl e ↦ inl (h.at ∙ e)
    | inr d ↦ inr (d.0, times_has d.0 cells_both (omega (arith, joined_times d.0, d.1)), rw h.at d.2)
  ]

  pub joined_laid : IsLaid map s
  joined_laid = laid_alike s h.kept.count h.pair.laid

  pub joined_left_below : (b : ℕ) → left_rest ≡ b + 1 → b < map.arena.blocks
  joined_left_below b e = name_below map.arena s h.lefts b (h.left_name ∙ e) h.left_spelled

  pub joined_right_below : (b : ℕ) → right_rest ≡ b + 1 → b < map.arena.blocks
  joined_right_below b e = name_below map.arena s h.rights b (h.right_name ∙ e) h.right_spelled

  rests_rising : IsRising (cells_of h.lefts ++ cells_of h.rights)
  rests_rising = rising_first (cells_of h.lefts ++ cells_of h.rights) (after_of h.path)
      (rising_last (before_of h.path) ((cells_of h.lefts ++ cells_of h.rights) ++ after_of h.path) (subst IsRising h.cells h.pair.search))

  module _ (b d j k : ℕ) (left_is : left_rest ≡ b + 1) (right_is : right_rest ≡ d + 1)
      (left_there : slice_get s (block_at map.arena b) ≡ Some j) (right_there : slice_get s (block_at map.arena d) ≡ Some k) where
    left_node : IsNode h.lefts b j
    left_node = node_named map.arena s h.lefts b j (h.left_name ∙ left_is) h.left_spelled left_there

    right_node : IsNode h.rights d k
    right_node = node_named map.arena s h.rights d k (h.right_name ∙ right_is) h.right_spelled right_there

    -- the two tops have different keys
    pub tops_differ : j < k
    tops_differ =
        let l : IsNode h.lefts b j = left_node in
        let r : IsNode h.rights d k = right_node in
        let rising : IsRising (cells_of (Node l.left l.cell l.right) ++ cells_of (Node r.left r.cell r.right)) =
        subst (λ t. IsRising (cells_of (Node l.left l.cell l.right) ++ cells_of t)) r.is
        (subst (λ t. IsRising (cells_of t ++ cells_of h.rights)) l.is rests_rising) in
        let above = rising_above (cells_of l.left) (cells_of l.right ++ cells_of (Node r.left r.cell r.right)) l.cell
        (subst IsRising (append_assoc (cells_of l.left) (l.cell ∷ cells_of l.right) (cells_of (Node r.left r.cell r.right))) rising) in
        let lt : l.cell.key < r.cell.key =
        (all_last (λ c. l.cell.key < c.key) (cells_of r.left) (r.cell ∷ cells_of r.right)
        (all_last (λ c. l.cell.key < c.key) (cells_of l.right) (cells_of (Node r.left r.cell r.right)) above)).0 in
        omega (arith, l.is_key, r.is_key)

    -- the left top is higher: it is hung, and its right subtree is joined with the right rest
    pub joined_left : {next : ℕ} {t : List ℕ} → priority_of k < priority_of j
        → Hangs place left_rest (block_at map.arena b + 3) next s t → IsJoined map hole left right (turns + 1) (block_at map.arena b + 3)
        next right_rest old t
    joined_left {t} lt hangs =
        let n = descends map.arena hole h.path h.place_has false left_node left_is h.at h.hung h.left_spelled
        (λ e. omega (arith, once e)) (λ e m. out e (omega arith)) hangs in
        let other : IsNode h.rights d k = right_node in
        record {
          first = h.first;
          second = h.second;
          pair = h.pair;
          path = step_down false n.left n.cell n.right ∷ h.path;
          lefts = n.right;
          rights = h.rights;
          left_name = n.is_next;
          right_name = h.right_name;
          at = n.at;
          place_has = name_of n.right;
          hung = n.hung;
          left_spelled = n.spelled;
          right_spelled = spelled_stays map.arena s t h.rights (n.stays (λ e. count_in e h.rights) (λ e. omega (arith, once e))
              (λ e m. out e (omega arith))) h.right_spelled;
          cells = h.cells ∙ ap (λ z. before_of h.path ++ ((cells_of z ++ cells_of h.rights) ++ after_of h.path)) n.is ∙ simp append_assoc;
          left_falls = λ top p q. (n.high top (h.left_falls top p q) h.left_heap).0;
          right_falls = λ top p q. let high = (n.high top (h.left_falls top p q) h.left_heap).0 in
              (omega (arith, ap rank_of other.is, ap priority_of other.is_key, ap priority_of n.is_key), high.1, high.2, high.3);
          left_heap = (subst IsHeap n.is h.left_heap).3;
          right_heap = h.right_heap;
          count = omega (arith, h.count, n.shorter);
          kept = keeps_hung hangs h.kept joined_own;
        }

    -- the right top is higher: it is hung, and its left subtree is joined with the left rest
    pub joined_right : {next : ℕ} {t : List ℕ} → priority_of j < priority_of k
        → Hangs place right_rest (block_at map.arena d + 2) next s t → IsJoined map hole left right (turns + 1) (block_at map.arena d + 2)
        left_rest next old t
    joined_right {t} lt hangs =
        let n = descends map.arena hole h.path h.place_has true right_node right_is h.at h.hung h.right_spelled
        (λ e. omega (arith, once e)) (λ e m. out e (omega arith)) hangs in
        let other : IsNode h.lefts b j = left_node in
        record {
          first = h.first;
          second = h.second;
          pair = h.pair;
          path = step_down true n.left n.cell n.right ∷ h.path;
          lefts = h.lefts;
          rights = n.left;
          left_name = h.left_name;
          right_name = n.is_next;
          at = n.at;
          place_has = name_of n.left;
          hung = n.hung;
          left_spelled = spelled_stays map.arena s t h.lefts (n.stays (λ e. count_in e h.lefts) (λ e. omega (arith, once e))
              (λ e m. out e (omega arith))) h.left_spelled;
          right_spelled = n.spelled;
          cells = h.cells ∙ ap (λ z. before_of h.path ++ ((cells_of h.lefts ++ cells_of z) ++ after_of h.path)) n.is ∙ simp append_assoc;
          left_falls = λ top p q. let high = (n.high top (h.right_falls top p q) h.right_heap).0 in
              (omega (arith, ap rank_of other.is, ap priority_of other.is_key, ap priority_of n.is_key), high.1, high.2, high.3);
          right_falls = λ top p q. (n.high top (h.right_falls top p q) h.right_heap).0;
          left_heap = h.left_heap;
          right_heap = (subst IsHeap n.is h.right_heap).2;
          count = omega (arith, h.count, n.shorter);
          kept = keeps_hung hangs h.kept joined_own;
        }

  -- one of the rests is none: the other is the last tree
  gathered : {name : ℕ} (last : Tree) → name_of last ≡ name → IsSpelled map.arena s last
      → before_of h.path ++ ((cells_of h.lefts ++ cells_of h.rights) ++ after_of h.path) ≡ before_of h.path ++ (cells_of last ++ after_of h.path)
      → ((top : ℕ) → rank_of h.first ≤ top → rank_of h.second ≤ top → IsHigh top h.path (rank_of last)) → IsHeap last
      → IsGathered map hole left right place name old s
  gathered last is_name spelled cells falls heap = record {
    first = h.first;
    second = h.second;
    pair = h.pair;
    path = h.path;
    last = last;
    is_name = is_name;
    at = h.at;
    place_has = h.place_has;
    hung = h.hung;
    spelled = spelled;
    cells = h.cells ∙ cells;
    falls = falls;
    heap = heap;
    kept = h.kept;
  }

  gathered_left : h.rights ≡ Leaf → IsGathered map hole left right place left_rest old s
  gathered_left leaf = gathered h.lefts h.left_name h.left_spelled
      (ap (λ z. before_of h.path ++ ((cells_of h.lefts ++ cells_of z) ++ after_of h.path)) leaf
      ∙ ap (λ z. before_of h.path ++ (z ++ after_of h.path)) (append-nil (cells_of h.lefts))) h.left_falls h.left_heap

  gathered_right : h.lefts ≡ Leaf → IsGathered map hole left right place right_rest old s
  gathered_right leaf = gathered h.rights h.right_name h.right_spelled
      (ap (λ z. before_of h.path ++ ((cells_of z ++ cells_of h.rights) ++ after_of h.path)) leaf) h.right_falls h.right_heap

  pub gathered_no_left : left_rest ≡ 0 → IsGathered map hole left right place right_rest old s
  gathered_no_left e = gathered_right (leaf_named h.lefts (h.left_name ∙ e))

  pub gathered_no_right : right_rest ≡ 0 → IsGathered map hole left right place left_rest old s
  gathered_no_right e = gathered_left (leaf_named h.rights (h.right_name ∙ e))

  pub gathered_all : map.arena.blocks ≤ turns → IsGathered map hole left right place left_rest old s
  gathered_all le = gathered_left (leaf_short h.rights (omega (arith, h.count)))

-- the last word is written
module _ {map : TreeMap} {hole left right place name : ℕ} {old s : List ℕ} (h : IsGathered map hole left right place name old s) where
  abbrev all_both : List Cell
  all_both = cells_of h.first ++ cells_of h.second

  gathered_times : (b : ℕ) → count_on b h.path + count_in b h.last ≡ times_in b all_both
  gathered_times b =
      let whole : times_in b all_both ≡ times_in b (before_of h.path ++ (cells_of h.last ++ after_of h.path)) = ap (times_in b) h.cells in
      omega (
        arith,
        times-append b (before_of h.path) (cells_of h.last ++ after_of h.path),
        times-append b (cells_of h.last) (after_of h.path),
        times_around b h.path,
        times_cells b h.last,
      )

  gathered_once : (b : ℕ) → count_on b h.path + count_in b h.last ≤ 1
  gathered_once b = omega (arith, gathered_times b, pair_once h.pair b)

  gathered_out : (b : ℕ) → 1 ≤ count_on b h.path + count_in b h.last → ¬ IsInBlock map.arena b hole
  gathered_out b k = h.pair.hole_out b (times_has b all_both (omega (arith, gathered_times b)))

  pub gathered_own : IsHoleOrName map hole all_both place
  gathered_own = elim (place_mine map.arena hole h.path) [
    | inl e ↦ inl (h.at ∙ e)
    | inr d ↦ inr (d.0, times_has d.0 all_both (omega (arith, gathered_times d.0, d.1)), rw h.at d.2)
  ]

  pub gathered_within : place < length s
  gathered_within = omega (arith, hole_within map.arena s hole h.path h.place_has 0 h.hung, h.at)

  pub joins_end : Joins map hole left right old (slice_set s place name)
  joins_end =
      let a : Arena = map.arena in
      let u : List ℕ = slice_set s (place_at_end a hole h.path) name in
      let same : slice_set s place name ≡ u = ap (λ z. slice_set s z name) h.at in
      let hung : IsHung a u hole h.path name =
      hung_here a s hole h.path h.place_has name h.hung (λ b. omega (arith, gathered_once b)) (λ b k. gathered_out b (omega arith)) in
      let spelled : IsSpelled a u h.last =
      spelled_stays a s u h.last (same_in a s hole h.path h.place_has name h.hung (λ b. count_in b h.last)
      gathered_once (λ b k. gathered_out b (omega arith))) h.spelled in
      subst (Joins map hole left right old) (sym same)
      (record {
        first = h.first;
        second = h.second;
        pair = h.pair;
        tree = plug h.path h.last;
        there = hung_plug a u hole h.path h.last (subst (IsHung a u hole h.path) (sym h.is_name) hung) spelled;
        cells = h.cells ∙ sym (cells_plug h.path h.last);
        lower = λ top p q. (high_plug top h.path h.last (h.falls top p q) h.heap).0;
        heap = (high_plug (rank_of h.first + rank_of h.second) h.path h.last
            (h.falls (rank_of h.first + rank_of h.second) (omega arith) (omega arith)) h.heap).1;
        kept = keeps_set name h.kept
            (subst (IsHoleOrName map hole all_both) h.at gathered_own);
      })
