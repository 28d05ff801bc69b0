-- The steps by which a tree is parted around a key, in one word list.
use Rattle.txn_tree_map.proofs.Common.{◌≡◌, ◌≢◌, ℕ, ◌+◌, ◌<◌, ◌≤◌, true, false, List, [], ◌∷◌, ◌++◌, length, slice_get, slice_set, get_or, Some, ◌⊎◌, inl, inr}
use Rattle.txn_tree_map.proofs.Common.{refl, sym, ap, ◌∙◌, subst, arith, append_assoc, true≢false, append-nil, slice_get-get_or, AllByRecursion, KeepsOthers}
use Rattle.txn_tree_map.proofs.Common.{Arena, block_at, IsInBlock, Cell, has_block, times_in, times-append, times_has, all_first, all_last, TreeMap, Tree}
use Rattle.txn_tree_map.proofs.Common.{priority_of, name_of, rank_of, cells_of, IsAbove, IsRising, IsLaid, Leaf, Node, place_at_end, before_of, after_of}
use Rattle.txn_tree_map.proofs.Common.{IsHung, IsHigh, IsBelow, Hangs, IsNameIn, IsWhole, IsParted, Splits, length_below}
use Rattle.txn_tree_map.proofs.Plugs.{plug}
use Rattle.txn_tree_map.proofs.Held.Rising.{rising_once, rising_first, rising_last, rising_below, rising_above}
use Rattle.txn_tree_map.proofs.Held.Trees.{count_in, count_on, times_cells, cells_plug, all_tree, hung_stays, hung_plug}
use Rattle.txn_tree_map.proofs.Held.Places.{high_plug, high_lower}
use Rattle.txn_tree_map.proofs.Searches.SearchSteps.{IsNode, node_named, leaf_named, leaf_short, step_down, low_down, high_down}
use Rattle.txn_tree_map.proofs.Searches.SearchCalls.{laid_alike, name_below}
use Rattle.txn_tree_map.proofs.Held.Hanging.{times_around, place_mine, named_block, hole_within, same_in, same_root, hung_here, keeps_set, keeps_none}
use Rattle.txn_tree_map.proofs.Inserts.Descents.{descends, keeps_hung}

-- a word of the list has some value
pub some_word : (s : List ℕ) (a : ℕ) → a < length s → slice_get s a ≡ Some (get_or s a 0)
some_word s a h = slice_get-get_or s a 0 h

module _ {map : TreeMap} {key block name : ℕ} {tree : Tree} {old : List ℕ} (w : IsWhole map key block name tree old) where
  pub whole_once : (b : ℕ) → times_in b (cells_of tree) ≤ 1
  whole_once b = rising_once map.arena old b (cells_of tree)
      (all_tree map.arena old (λ c. slice_get old (block_at map.arena c.block) ≡ Some c.key) (λ c x y n. n.key) tree w.spelled) w.search

  pub whole_below : (b : ℕ) → 1 ≤ times_in b (cells_of tree) → b ≢ block
  whole_below b k e = true≢false (sym (times_has b (cells_of tree) k) ∙ ap (λ d. has_block d (cells_of tree)) e ∙ w.apart)

  -- no block of the tree has a word of the new block
  pub whole_out : (b a : ℕ) → (a ≡ block_at map.arena block + 2) ⊎ (a ≡ block_at map.arena block + 3)
      → 1 ≤ times_in b (cells_of tree) → ¬ IsInBlock map.arena b a
  whole_out b a e k mine = whole_below b k (named_block block mine e)

  -- nothing is parted yet
  pub parted_none : IsParted map key block name 0 (block_at map.arena block + 2) (block_at map.arena block + 3) name old old
  parted_none =
      let fits = w.laid.arena.blocks block w.below in
      record {
        tree = tree;
        whole = w;
        low_path = [];
        high_path = [];
        inner = tree;
        is_rest = w.is_name;
        smaller_at = refl;
        greater_at = refl;
        smaller_has = get_or old (block_at map.arena block + 2) 0;
        greater_has = get_or old (block_at map.arena block + 3) 0;
        low_hung = some_word old (block_at map.arena block + 2) (omega arith);
        high_hung = some_word old (block_at map.arena block + 3) (omega arith);
        spelled = w.spelled;
        cells = sym (append-nil (cells_of tree));
        low_end = refl;
        high_end = refl;
        low = tt;
        high = tt;
        low_falls = w.lower;
        high_falls = w.lower;
        heap = w.heap;
        count = let short : length (cells_of tree) ≤ map.arena.blocks =
            length_below map.arena.blocks (cells_of tree) whole_once
            (all_tree map.arena old (λ c. c.block < map.arena.blocks) (λ c x y n. n.below) tree w.spelled) in omega arith;
        kept = keeps_none (IsNameIn map block tree) old;
      }

nothing_in : (b : ℕ) (cs : List Cell) → cs ≡ [] → times_in b cs ≡ 0
nothing_in b cs e = ap (times_in b) e

module _ {map : TreeMap} {key block name turns smaller greater rest : ℕ} {old s : List ℕ}
    (h : IsParted map key block name turns smaller greater rest old s) where
  -- how often a block stands in the three parts
  pub parted_times : (b : ℕ) → count_on b h.low_path + count_in b h.inner + count_on b h.high_path ≡ times_in b (cells_of h.tree)
  parted_times b =
      let whole : times_in b (cells_of h.tree)
      ≡ times_in b (before_of h.low_path ++ (cells_of h.inner ++ after_of h.high_path)) = ap (times_in b) h.cells in
      omega (
        arith,
        nothing_in b (after_of h.low_path) h.low_end,
        nothing_in b (before_of h.high_path) h.high_end,
        times-append b (before_of h.low_path) (cells_of h.inner ++ after_of h.high_path),
        times-append b (cells_of h.inner) (after_of h.high_path),
        times_around b h.low_path,
        times_around b h.high_path,
        times_cells b h.inner,
      )

  once : (b : ℕ) → count_on b h.low_path + count_in b h.inner + count_on b h.high_path ≤ 1
  once b = omega (arith, parted_times b, whole_once h.whole b)

  -- the root of neither path is in a block of the tree
  out : (a b : ℕ) → (a ≡ block_at map.arena block + 2) ⊎ (a ≡ block_at map.arena block + 3)
      → 1 ≤ count_on b h.low_path + count_in b h.inner + count_on b h.high_path → ¬ IsInBlock map.arena b a
  out a b e k = whole_out h.whole b a e (omega (arith, parted_times b))

  pub smaller_within : smaller < length s
  smaller_within = omega (arith, hole_within map.arena s (block_at map.arena block + 2) h.low_path h.smaller_has 0 h.low_hung, h.smaller_at)

  pub greater_within : greater < length s
  greater_within = omega (arith, hole_within map.arena s (block_at map.arena block + 3) h.high_path h.greater_has 0 h.high_hung, h.greater_at)

  -- both places name subtrees
  own_at : (a b : ℕ) → 1 ≤ count_on b h.low_path + count_in b h.inner + count_on b h.high_path
      → (a ≡ block_at map.arena b + 2) ⊎ (a ≡ block_at map.arena b + 3) → IsNameIn map block h.tree a
  own_at a b k e = record { owner = b; mine = inr (times_has b (cells_of h.tree) (omega (arith, parted_times b))); place = e }

  pub smaller_own : IsNameIn map block h.tree smaller
  smaller_own = elim (place_mine map.arena (block_at map.arena block + 2) h.low_path) [
    | inl e ↦ record { owner = block; mine = inl refl; place = inl (h.smaller_at ∙ e) }
    | inr d ↦ own_at smaller d.0 (omega (arith, d.1)) (rw h.smaller_at d.2)
  ]

  pub greater_own : IsNameIn map block h.tree greater
  greater_own = elim (place_mine map.arena (block_at map.arena block + 3) h.high_path) [
    | inl e ↦ record { owner = block; mine = inl refl; place = inr (h.greater_at ∙ e) }
    | inr d ↦ own_at greater d.0 (omega (arith, d.1)) (rw h.greater_at d.2)
  ]

  module _ (b k : ℕ) (is_name : rest ≡ b + 1) (there : slice_get s (block_at map.arena b) ≡ Some k) where
    pub parted_node : IsNode h.inner b k
    parted_node = node_named map.arena s h.inner b k (h.is_rest ∙ is_name) h.spelled there

    -- the key of the node is another
    pub parted_other : k ≢ key
    parted_other =
        let other : Cell → Type 0 = λ c. c.key ≢ key in
        let node : IsNode h.inner b k = parted_node in
        let all : AllByRecursion other (before_of h.low_path ++ (cells_of h.inner ++ after_of h.high_path)) =
        subst (AllByRecursion other) h.cells h.whole.other in
        let here : AllByRecursion other (cells_of h.inner) =
        all_first other (cells_of h.inner) (after_of h.high_path) (all_last other (before_of h.low_path) (cells_of h.inner ++ after_of h.high_path) all) in
        let mine : AllByRecursion other (cells_of (Node node.left node.cell node.right)) = subst (λ t. AllByRecursion other (cells_of t)) node.is here in
        let ne : node.cell.key ≢ key = (all_last other (cells_of node.left) (node.cell ∷ cells_of node.right) mine).0 in
        subst (λ (d : ℕ). d ≢ key) node.is_key ne

    inner_rising : IsRising (cells_of h.inner)
    inner_rising = rising_first (cells_of h.inner) (after_of h.high_path)
        (rising_last (before_of h.low_path) (cells_of h.inner ++ after_of h.high_path) (subst IsRising h.cells h.whole.search))

    -- a node with a smaller key goes to the smaller keys, and its right subtree is parted further
    pub parted_low : {next : ℕ} {t : List ℕ} → k < key → Hangs smaller rest (block_at map.arena b + 3) next s t
        → IsParted map key block name (turns + 1) (block_at map.arena b + 3) greater next old t
    parted_low {t} lt hangs =
        let p : ℕ = block_at map.arena block + 2 in
        let q : ℕ = block_at map.arena block + 3 in
        let n = descends map.arena p h.low_path h.smaller_has false parted_node is_name h.smaller_at h.low_hung h.spelled
        (λ d. omega (arith, once d)) (λ d m. out p d (inl refl) (omega arith)) hangs in
        let falls = n.high (priority_of key) h.low_falls h.heap in
        record {
          tree = h.tree;
          whole = h.whole;
          low_path = step_down false n.left n.cell n.right ∷ h.low_path;
          high_path = h.high_path;
          inner = n.right;
          is_rest = n.is_next;
          smaller_at = n.at;
          greater_at = h.greater_at;
          smaller_has = name_of n.right;
          greater_has = h.greater_has;
          low_hung = n.hung;
          high_hung = hung_stays map.arena s t q h.high_path h.greater_has
              (n.stays_at q (λ e. omega arith) (λ d m. out q d (inr refl) (omega arith)))
              (n.stays (λ d. count_on d h.high_path) (λ d. omega (arith, once d)) (λ d m. out p d (inl refl) (omega arith)))
              h.high_hung;
          spelled = n.spelled;
          cells = h.cells ∙ ap (λ z. before_of h.low_path ++ (cells_of z ++ after_of h.high_path)) n.is ∙ simp append_assoc;
          low_end = h.low_end;
          high_end = h.high_end;
          low = low_down false key h.low_path n.left n.right n.cell h.low
              (rising_below (cells_of n.left) (cells_of n.right) n.cell (subst (λ z. IsRising (cells_of z)) n.is inner_rising))
              (λ e. omega (arith, n.is_key));
          high = h.high;
          low_falls = falls.0;
          high_falls = high_lower (priority_of key) h.high_path (rank_of n.right) (rank_of h.inner) (omega (arith, falls.0.0, ap rank_of n.is)) h.high_falls;
          heap = falls.1;
          count = omega (arith, h.count, n.shorter);
          kept = keeps_hung hangs h.kept smaller_own;
        }

    -- a node with a greater key goes to the greater keys, and its left subtree is parted further
    pub parted_high : {next : ℕ} {t : List ℕ} → key < k → Hangs greater rest (block_at map.arena b + 2) next s t
        → IsParted map key block name (turns + 1) smaller (block_at map.arena b + 2) next old t
    parted_high {t} lt hangs =
        let p : ℕ = block_at map.arena block + 2 in
        let q : ℕ = block_at map.arena block + 3 in
        let n = descends map.arena q h.high_path h.greater_has true parted_node is_name h.greater_at h.high_hung h.spelled
        (λ d. omega (arith, once d)) (λ d m. out q d (inr refl) (omega arith)) hangs in
        let falls = n.high (priority_of key) h.high_falls h.heap in
        record {
          tree = h.tree;
          whole = h.whole;
          low_path = h.low_path;
          high_path = step_down true n.left n.cell n.right ∷ h.high_path;
          inner = n.left;
          is_rest = n.is_next;
          smaller_at = h.smaller_at;
          greater_at = n.at;
          smaller_has = h.smaller_has;
          greater_has = name_of n.left;
          low_hung = hung_stays map.arena s t p h.low_path h.smaller_has
              (n.stays_at p (λ e. omega arith) (λ d m. out p d (inl refl) (omega arith)))
              (n.stays (λ d. count_on d h.low_path) (λ d. omega (arith, once d)) (λ d m. out q d (inr refl) (omega arith)))
              h.low_hung;
          high_hung = n.hung;
          spelled = n.spelled;
          cells = h.cells ∙ ap (λ z. before_of h.low_path ++ (cells_of z ++ after_of h.high_path)) n.is ∙ simp append_assoc;
          low_end = h.low_end;
          high_end = append-nil (before_of h.high_path) ∙ h.high_end;
          low = h.low;
          high = high_down true key h.high_path n.left n.right n.cell h.high
              (rising_above (cells_of n.left) (cells_of n.right) n.cell (subst (λ z. IsRising (cells_of z)) n.is inner_rising))
              (λ e. omega (arith, n.is_key));
          low_falls = high_lower (priority_of key) h.low_path (rank_of n.left) (rank_of h.inner) (omega (arith, falls.0.0, ap rank_of n.is)) h.low_falls;
          high_falls = falls.0;
          heap = falls.1;
          count = omega (arith, h.count, n.shorter);
          kept = keeps_hung hangs h.kept greater_own;
        }

  -- all is parted if the rest is a leaf
  pub parted_over : h.inner ≡ Leaf → IsParted map key block name 0 smaller greater 0 old s
  parted_over leaf = record {
    tree = h.tree;
    whole = h.whole;
    low_path = h.low_path;
    high_path = h.high_path;
    inner = Leaf;
    is_rest = refl;
    smaller_at = h.smaller_at;
    greater_at = h.greater_at;
    smaller_has = h.smaller_has;
    greater_has = h.greater_has;
    low_hung = h.low_hung;
    high_hung = h.high_hung;
    spelled = tt;
    cells = h.cells ∙ ap (λ z. before_of h.low_path ++ (cells_of z ++ after_of h.high_path)) leaf;
    low_end = h.low_end;
    high_end = h.high_end;
    low = h.low;
    high = h.high;
    low_falls = subst (λ z. IsHigh (priority_of key) h.low_path (rank_of z)) leaf h.low_falls;
    high_falls = subst (λ z. IsHigh (priority_of key) h.high_path (rank_of z)) leaf h.high_falls;
    heap = tt;
    count = omega arith;
    kept = h.kept;
  }

  pub parted_end : rest ≡ 0 → IsParted map key block name 0 smaller greater 0 old s
  parted_end e = parted_over (leaf_named h.inner (h.is_rest ∙ e))

  pub parted_all : map.arena.blocks ≤ turns → IsParted map key block name 0 smaller greater 0 old s
  parted_all le = parted_over (leaf_short h.inner (omega (arith, h.count)))

  -- what a call may rely on
  pub parted_laid : IsLaid map s
  parted_laid = laid_alike s h.kept.count h.whole.laid

  pub parted_below : (b : ℕ) → rest ≡ b + 1 → b < map.arena.blocks
  parted_below b e = name_below map.arena s h.inner b (h.is_rest ∙ e) h.spelled

-- the last words are written
pub splits_end : {map : TreeMap} {key block name smaller greater : ℕ} {old s : List ℕ} → IsParted map key block name 0 smaller greater 0 old s
    → Splits map key block name old (slice_set (slice_set s smaller 0) greater 0)
splits_end {map} {key} {block} {name} {smaller} {greater} {old} {s} h =
    let a : Arena = map.arena in
    let p : ℕ = block_at a block + 2 in
    let q : ℕ = block_at a block + 3 in
    let t : List ℕ = slice_set s (place_at_end a p h.low_path) 0 in
    let u : List ℕ = slice_set t (place_at_end a q h.high_path) 0 in
    let same : slice_set (slice_set s smaller 0) greater 0 ≡ u =
    ap (λ z. slice_set (slice_set s z 0) greater 0) h.smaller_at ∙ ap (λ z. slice_set t z 0) h.greater_at in
    let once : (b : ℕ) → count_on b h.low_path + count_in b h.inner + count_on b h.high_path ≤ 1 =
    λ b. omega (arith, parted_times h b, whole_once h.whole b) in
    let out : (y b : ℕ) → (y ≡ p) ⊎ (y ≡ q) → 1 ≤ count_on b h.low_path + count_in b h.inner + count_on b h.high_path → ¬ IsInBlock a b y =
    λ y b e k. whole_out h.whole b y e (omega (arith, parted_times h b)) in
    let low_t : IsHung a t p h.low_path 0 =
    hung_here a s p h.low_path h.smaller_has 0 h.low_hung (λ b. omega (arith, once b)) (λ b k. out p b (inl refl) (omega arith)) in
    let high_t : IsHung a t q h.high_path h.greater_has = hung_stays a s t q h.high_path h.greater_has
    (same_root a s p h.low_path h.smaller_has 0 h.low_hung q (λ e. omega arith) (λ b k. out q b (inr refl) (omega arith)))
    (same_in a s p h.low_path h.smaller_has 0 h.low_hung (λ d. count_on d h.high_path) (λ b. omega (arith, once b))
    (λ b k. out p b (inl refl) (omega arith))) h.high_hung in
    let high_u : IsHung a u q h.high_path 0 =
    hung_here a t q h.high_path h.greater_has 0 high_t (λ b. omega (arith, once b)) (λ b k. out q b (inr refl) (omega arith)) in
    let low_u : IsHung a u p h.low_path 0 = hung_stays a t u p h.low_path 0
    (same_root a t q h.high_path h.greater_has 0 high_t p (λ e. omega arith) (λ b k. out p b (inl refl) (omega arith)))
    (same_in a t q h.high_path h.greater_has 0 high_t (λ d. count_on d h.low_path) (λ b. omega (arith, once b))
    (λ b k. out q b (inr refl) (omega arith))) low_t in
    let leaf : h.inner ≡ Leaf = leaf_named h.inner h.is_rest in
    let left : Tree = plug h.low_path Leaf in
    let right : Tree = plug h.high_path Leaf in
    let left_is : cells_of left ≡ before_of h.low_path = cells_plug h.low_path Leaf
    ∙ ap (λ z. before_of h.low_path ++ z) h.low_end ∙ append-nil (before_of h.low_path) in
    let right_is : cells_of right ≡ after_of h.high_path = cells_plug h.high_path Leaf ∙ ap (λ z. z ++ after_of h.high_path) h.high_end in
    let lows = high_plug (priority_of key) h.low_path Leaf (subst (λ z. IsHigh (priority_of key) h.low_path (rank_of z)) leaf h.low_falls) tt in
    let highs = high_plug (priority_of key) h.high_path Leaf (subst (λ z. IsHigh (priority_of key) h.high_path (rank_of z)) leaf h.high_falls) tt in
    let kept_t : KeepsOthers (IsNameIn map block h.tree) old t =
    keeps_set 0 h.kept
    (subst (IsNameIn map block h.tree) h.smaller_at (smaller_own h)) in
    let kept_u : KeepsOthers (IsNameIn map block h.tree) old u =
    keeps_set 0 kept_t
    (subst (IsNameIn map block h.tree) h.greater_at (greater_own h)) in
    subst (Splits map key block name old) (sym same)
    (record {
      tree = h.tree;
      whole = h.whole;
      left = left;
      right = right;
      left_there = hung_plug a u p h.low_path Leaf low_u tt;
      right_there = hung_plug a u q h.high_path Leaf high_u tt;
      cells = h.cells ∙ ap (λ z. before_of h.low_path ++ (cells_of z ++ after_of h.high_path)) leaf
          ∙ sym (ap (λ z. z ++ cells_of right) left_is ∙ ap (λ z. before_of h.low_path ++ z) right_is);
      low = subst (IsBelow key) (sym left_is) h.low;
      high = subst (IsAbove key) (sym right_is) h.high;
      left_lower = lows.0;
      right_lower = highs.0;
      left_heap = lows.1;
      right_heap = highs.1;
      kept = kept_u;
    })
