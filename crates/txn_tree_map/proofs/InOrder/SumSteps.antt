-- The steps of a sum over keys, in one word list.
use Rattle.txn_tree_map.proofs.Common.{◌≡◌, ℕ, ◌+◌, ◌<◌, ◌≤◌, Bool, true, false, nat_lt, nat_le, List, [], ◌∷◌, ◌++◌, length, slice_get, Some, None, refl, sym}
use Rattle.txn_tree_map.proofs.Common.{ap, ◌∙◌, subst, arith, rules, if◌then◌else◌, length-append, append-nil, same_Some, AllByRecursion, block_at, Cell}
use Rattle.txn_tree_map.proofs.Common.{Entries, Blocks, all_append, all_last, all_map, TreeMap, Named, Tree, cells_of, IsAbove, IsRising, TreeHolds, HangsAt}
use Rattle.txn_tree_map.proofs.Common.{IsBelow, IsFrom, IsFirstFrom, counted, IsNext, HasNoneTo}
use Rattle.std.proofs.Common.{◌&&◌}
use Rattle.std.proofs.lemmas.List.{append_assoc}
use Rattle.std.proofs.lemmas.List.Sums.{sum_by-cons}
use Rattle.std.specs.List.{sum_by}
use Rattle.txn_alloc.specs.EntryMaps.{sum_between}
use Rattle.txn_tree_map.proofs.Summed.{sum_cells, IsSummed, IsTotal}
use Rattle.txn_tree_map.proofs.Held.Rising.{below_more, rising_above}
use Rattle.txn_tree_map.proofs.Held.Trees.{all_tree}
use Rattle.txn_tree_map.proofs.Held.Places.{at_tree, at_cells, at_room}
use Rattle.txn_tree_map.proofs.Held.Entries.{pairs_of, entries_cells}

-- sums over cells
pub sum_pairs : (g : ℕ × ℕ → ℕ) (cs : List Cell) → sum_by g (pairs_of cs) ≡ sum_cells (λ c. g (c.key, c.value)) cs
sum_pairs g [] = refl
sum_pairs g (c ∷ cs) = sum_by-cons g (c.key, c.value) (pairs_of cs) ∙ ap (λ n. g (c.key, c.value) + n) (sum_pairs g cs)

sum_cells-append : (f : Cell → ℕ) (xs ys : List Cell) → sum_cells f (xs ++ ys) ≡ sum_cells f xs + sum_cells f ys
sum_cells-append f [] ys = omega arith
sum_cells-append f (x ∷ xs) ys = omega (arith, sum_cells-append f xs ys)

counted_at : (low high : ℕ) (c : Cell) → low ≤ c.key → c.key ≤ high → counted low high c ≡ c.value
counted_at low high c l h = grind (arith, rules, l, h)

counted_low : (low high : ℕ) (c : Cell) → c.key < low → counted low high c ≡ 0
counted_low low high c l = let no : nat_le low c.key ≡ false = grind (arith, rules, l) in grind (rules, no)

counted_high : (low high : ℕ) (c : Cell) → high < c.key → counted low high c ≡ 0
counted_high low high c h = at (nat_le low c.key) refl
  where
    no : nat_le c.key high ≡ false
    no = grind (arith, rules, h)

    at : (b : Bool) → nat_le low c.key ≡ b → counted low high c ≡ 0
    at true e = grind (rules, e, no)
    at false e = grind (rules, e)

sum_low : (low high : ℕ) (cs : List Cell) → IsBelow low cs → sum_cells (counted low high) cs ≡ 0
sum_low low high [] h = refl
sum_low low high (c ∷ cs) h = omega (arith, sum_low low high cs h.1, counted_low low high c h.0)

sum_past : (low high : ℕ) (cs : List Cell) → IsFrom (high + 1) cs → sum_cells (counted low high) cs ≡ 0
sum_past low high [] h = refl
sum_past low high (c ∷ cs) h =
    let past : high < c.key = omega (arith, h.0) in
    omega (arith, sum_past low high cs h.1, counted_high low high c past)

-- rising cells are parted at a key in one way
pub record PartedAt (least : ℕ) (cs : List Cell) : Type 0 where
  pub lows : List Cell
  pub highs : List Cell
  pub whole : cs ≡ lows ++ highs
  pub low : IsBelow least lows
  pub high : IsFrom least highs

parted_more : {least : ℕ} (c : Cell) {cs : List Cell} → c.key < least → PartedAt least cs → PartedAt least (c ∷ cs)
parted_more c lt p = record { lows = c ∷ p.lows; highs = p.highs; whole = ap (λ z. c ∷ z) p.whole; low = (lt, p.low); high = p.high }

parted_first : {least : ℕ} (c : Cell) {cs : List Cell} (b : Bool) → nat_lt c.key least ≡ b → IsAbove c.key cs → PartedAt least cs → PartedAt least (c ∷ cs)
parted_first c true e above p = parted_more c (grind (arith, rules, e)) p
parted_first {least} c {cs} false e above p =
    let le : least ≤ c.key = grind (arith, rules, e) in
    record { lows = []; highs = c ∷ cs; whole = refl; low = tt; high = (le, all_map (λ d. c.key < d.key) (λ d. least ≤ d.key) cs (λ d m. omega arith) above) }

pub parted_at : (least : ℕ) (cs : List Cell) → IsRising cs → PartedAt least cs
parted_at least [] h = record { lows = []; highs = []; whole = refl; low = tt; high = tt }
parted_at least (c ∷ cs) h = parted_first c (nat_lt c.key least) refl h.0 (parted_at least cs h.1)

pub parted_once : (least : ℕ) (xs ys zs ws : List Cell) → xs ++ ys ≡ zs ++ ws → IsBelow least xs → IsFrom least ys
    → IsBelow least zs → IsFrom least ws → (xs ≡ zs) × (ys ≡ ws)
parted_once least [] ys [] ws e xl yh zl wh = (refl, e)
parted_once least [] [] (z ∷ zs) ws e xl yh zl wh = absurd (cc)
parted_once least [] (y ∷ ys) (z ∷ zs) ws e xl yh zl wh =
    let same : y ≡ z = cc in
    let key : y.key ≡ z.key = ap (λ c. c.key) same in
    absurd (omega (arith, yh.0, zl.0))
parted_once least (x ∷ xs) ys [] [] e xl yh zl wh = absurd (cc)
parted_once least (x ∷ xs) ys [] (w ∷ ws) e xl yh zl wh =
    let same : x ≡ w = cc in
    let key : x.key ≡ w.key = ap (λ c. c.key) same in
    absurd (omega (arith, xl.0, wh.0))
parted_once least (x ∷ xs) ys (z ∷ zs) ws e xl yh zl wh =
    let same : x ≡ z = cc in
    let rest : xs ++ ys ≡ zs ++ ws = cc in
    let k = parted_once least xs ys zs ws rest xl.1 yh zl.1 wh in
    (ap (λ c. c ∷ xs) same ∙ ap (λ cs. z ∷ cs) k.0, k.1)

from_more : (j k : ℕ) (cs : List Cell) → j ≤ k → IsFrom k cs → IsFrom j cs
from_more j k cs le h = all_map (λ c. k ≤ c.key) (λ c. j ≤ c.key) cs (λ c m. omega arith) h

module _ {map : TreeMap} {s : List ℕ} where
  -- two trees of the map in one list have the same cells
  trees_same : {one two : Tree} → HangsAt map [] one s → HangsAt map [] two s → cells_of one ≡ cells_of two
  trees_same {one} {two} m k = sym (append-nil (cells_of one)) ∙ at_cells k m ∙ append-nil (cells_of two)

  tree_rises : {tree : Tree} → HangsAt map [] tree s → IsRising (cells_of tree)
  tree_rises {tree} m = subst IsRising (append-nil (cells_of tree)) m.search

  -- the block and the value of a cell of the tree
  cell_node : {tree : Tree} (lows highs : List Cell) (c : Cell) → HangsAt map [] tree s → cells_of tree ≡ lows ++ c ∷ highs
      → (c.block < map.arena.blocks) × (slice_get s (block_at map.arena c.block + 1) ≡ Some c.value) × (slice_get s (block_at map.arena c.block) ≡ Some c.key)
  cell_node {tree} lows highs c m e =
      let P : Cell → Type 0 = λ d. (d.block < map.arena.blocks)
      × (slice_get s (block_at map.arena d.block + 1) ≡ Some d.value) × (slice_get s (block_at map.arena d.block) ≡ Some d.key) in
      let all : AllByRecursion P (cells_of tree) = all_tree map.arena s P (λ d x y n. (n.below, n.value, n.key)) tree m.spelled in
      (all_last P lows (c ∷ highs) (subst (AllByRecursion P) e all)).0

  -- the first node from a key on
  module _ {least : ℕ} (node : Named) (h : IsFirstFrom map least (Some node) s) where
    node_cells : cells_of h.tree ≡ h.lows ++ h.first.0 ∷ h.first.1
    node_cells = h.cells ∙ ap (λ z. h.lows ++ z) h.first.2

    pub nearest_below : node.block < map.arena.blocks
    nearest_below = let k = cell_node h.lows h.first.1 h.first.0 h.is_at node_cells in omega (arith, k.0, h.first.3)

    pub nearest_key : slice_get s (block_at map.arena node.block) ≡ Some node.key
    nearest_key = let k = cell_node h.lows h.first.1 h.first.0 h.is_at node_cells in
        ap (λ d. slice_get s (block_at map.arena d)) (sym h.first.3) ∙ k.2 ∙ ap Some h.first.4

    first_from : least ≤ h.first.0.key
    first_from = (subst (IsFrom least) h.first.2 h.high).0

    pub nearest_from : least ≤ node.key
    nearest_from = omega (arith, first_from, h.first.4)

    pub nearest_cell : IsNext map least node.key h.first.0.value s
    nearest_cell = record {
      tree = h.tree;
      is_at = h.is_at;
      lows = h.lows;
      cell = h.first.0;
      highs = h.first.1;
      cells = node_cells;
      low = h.low;
      from = first_from;
      is_key = h.first.4;
      is_value = refl;
    }

    pub nearest_next : (value : ℕ) → slice_get s (block_at map.arena node.block + 1) ≡ Some value → IsNext map least node.key value s
    nearest_next value there =
        let k = cell_node h.lows h.first.1 h.first.0 h.is_at node_cells in
        subst (λ v. IsNext map least node.key v s)
        (same_Some (h.first.0.value) value (sym k.1 ∙ ap (λ d. slice_get s (block_at map.arena d + 1)) h.first.3 ∙ there)) nearest_cell

    pub nearest_past : (high : ℕ) → high < node.key → HasNoneTo map least high s
    nearest_past high lt =
        let c : Cell = h.first.0 in
        let past : high + 1 ≤ c.key = omega (arith, h.first.4) in
        let above : IsAbove c.key (h.first.1) = rising_above h.lows (h.first.1) c (subst IsRising node_cells (tree_rises h.is_at)) in
        record {
          tree = h.tree;
          is_at = h.is_at;
          lows = h.lows;
          highs = h.highs;
          cells = h.cells;
          low = h.low;
          from = h.high;
          past = subst (IsFrom (high + 1)) (sym h.first.2) (
            past,
            all_map (λ d. c.key < d.key) (λ d. high + 1 ≤ d.key) (h.first.1) (λ d m. omega arith) above,
          );
        }

  pub nearest_none : {least : ℕ} (high : ℕ) → IsFirstFrom map least None s → HasNoneTo map least high s
  nearest_none high h = record {
    tree = h.tree;
    is_at = h.is_at;
    lows = h.lows;
    highs = h.highs;
    cells = h.cells;
    low = h.low;
    from = h.high;
    past = subst (IsFrom (high + 1)) (sym h.first) tt;
  }

  module _ (low high : ℕ) where
    -- nothing is summed yet
    pub summed_none : {tree : Tree} → HangsAt map [] tree s → IsSummed map low high low 0 0 s
    summed_none {tree} m =
        let p = parted_at low (cells_of tree) (tree_rises m) in
        record {
          tree = tree;
          is_at = m;
          done = p.lows;
          rest = p.highs;
          cells = p.whole;
          below = p.low;
          from = p.high;
          sum = sym (sum_low low high p.lows p.low);
          count = omega (arith, at_room map s [] tree m, length-append (cells_of tree) [], ap length p.whole, length-append p.lows p.highs);
        }

    module _ {least turns total : ℕ} (h : IsSummed map low high least turns total s) where
      -- the sum of all if the rest is past
      total_past : IsFrom (high + 1) h.rest → IsTotal map low high total s
      total_past past = record {
        tree = h.tree;
        is_at = h.is_at;
        sum = let whole : sum_cells (counted low high) (cells_of h.tree)
            ≡ sum_cells (counted low high) (h.done ++ h.rest) = ap (sum_cells (counted low high)) h.cells in
            omega (arith, sum_past low high h.rest past, h.sum, sum_cells-append (counted low high) h.done h.rest);
      }

      pub total_high : high < least → IsTotal map low high total s
      total_high lt = total_past (from_more (high + 1) least h.rest (omega arith) h.from)

      no_rest : (cs : List Cell) → length cs ≡ 0 → IsFrom (high + 1) cs
      no_rest [] e = tt
      no_rest (c ∷ cs) e = absurd (omega arith)

      pub total_all : map.arena.blocks ≤ turns → IsTotal map low high total s
      total_all le = total_past (no_rest h.rest (omega (arith, h.count)))

      pub total_none : HasNoneTo map least high s → IsTotal map low high total s
      total_none k =
          let one = parted_once least h.done h.rest k.lows k.highs (sym h.cells
          ∙ trees_same h.is_at k.is_at ∙ k.cells) h.below h.from k.low k.from in
          total_past (subst (IsFrom (high + 1)) (sym one.1) k.past)

      module _ {key value : ℕ} (k : IsNext map least key value s) where
        next_from : IsFrom least (k.cell ∷ k.highs)
        next_from =
            let above : IsAbove k.cell.key k.highs = rising_above k.lows k.highs k.cell (subst IsRising k.cells (tree_rises k.is_at)) in
            let le : least ≤ k.cell.key = k.from in
            (le, all_map (λ d. k.cell.key < d.key) (λ d. least ≤ d.key) k.highs (λ d m. omega arith) above)

        next_parts : (h.done ≡ k.lows) × (h.rest ≡ k.cell ∷ k.highs)
        next_parts = parted_once least h.done h.rest k.lows (k.cell ∷ k.highs) (sym h.cells
            ∙ trees_same h.is_at k.is_at ∙ k.cells) h.below h.from k.low next_from

        -- one value more
        pub summed_more : low ≤ least → key ≤ high → IsSummed map low high (key + 1) (turns + 1) (total + value) s
        summed_more le_low le_high =
            let c : Cell = k.cell in
            let above : IsAbove c.key k.highs = rising_above k.lows k.highs c (subst IsRising k.cells (tree_rises k.is_at)) in
            let one = counted_at low high c (omega (arith, k.from)) (omega (arith, k.is_key)) in
            let so_far : total ≡ sum_cells (counted low high) k.lows = h.sum ∙ ap (sum_cells (counted low high)) next_parts.0 in
            let shorter : length h.rest ≡ length (c ∷ k.highs) = ap length next_parts.1 in
            record {
              tree = k.tree;
              is_at = k.is_at;
              done = k.lows ++ c ∷ [];
              rest = k.highs;
              cells = k.cells ∙ sym (append_assoc k.lows (c ∷ []) k.highs);
              below = all_append (λ d. d.key < key + 1) k.lows (c ∷ [])
                  (below_more least (key + 1) k.lows (omega (arith, k.from, k.is_key)) k.low) (omega (arith, k.is_key), tt);
              from = all_map (λ d. c.key < d.key) (λ d. key + 1 ≤ d.key) k.highs (λ d m. omega (arith, k.is_key)) above;
              sum = omega (arith, k.is_value, sum_cells-append (counted low high) k.lows (c ∷ []));
              count = omega (arith, h.count);
            }

    -- what the total says of the map
    pub total_sum : {total : ℕ} {f : Entries} {u : Blocks} → IsTotal map low high total s → TreeHolds map s f u → total ≡ sum_between low high f
    total_sum {f} {u} h hold =
        h.sum ∙ ap (sum_cells (counted low high)) (trees_same h.is_at (at_tree map s f u hold))
        ∙ sym (sum_pairs (λ e. if nat_le low e.0 && nat_le e.0 high then e.1 else 0) (cells_of hold.tree))
        ∙ ap (λ es. sum_by (λ e. if nat_le low e.0 && nat_le e.0 high then e.1 else 0) es) (sym (entries_cells hold))
