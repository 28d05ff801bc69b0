-- A place in the map's tree, and what the whole says there.
use Rattle.txn_tree_map.proofs.Common.{◌≡◌, ℕ, ◌+◌, ◌^◌, ◌<◌, ◌≤◌, Bool, true, false, List, [], ◌∷◌, ◌++◌, length, slice_get, Some, sym, ap, ◌∙◌, subst, arith}
use Rattle.txn_tree_map.proofs.Common.{if◌then◌else◌, append-nil, slice_get_within, same_Some, AllByRecursion, Arena, block_at, IsInBlock, Cell, Entries}
use Rattle.txn_tree_map.proofs.Common.{Blocks, value_of, has_block, all_append, times_in, has_times, times_has, TreeMap, Tree, name_of, rank_of, cells_of}
use Rattle.txn_tree_map.proofs.Common.{HasNode, IsSpelled, IsRising, IsHeap, TreeHolds, Leaf, Node, Step, Path, place_at_end, before_of, after_of, IsHung}
use Rattle.txn_tree_map.proofs.Common.{IsHigh, HangsAt, length_below}
use Rattle.txn_tree_map.specs.Trees.{priority_of}
use Rattle.txn_tree_map.proofs.Plugs.{whole_of, plug}
use Rattle.txn_alloc.proofs.Maps.Counting.{times_all}
use Rattle.txn_tree_map.proofs.Held.Rising.{rising_once}
use Rattle.txn_tree_map.proofs.Held.Trees.{count_in, count_on, times_cells, cells_step, cells_plug, count_plug, all_tree, all_before, all_after, spelled_whole}
use Rattle.txn_tree_map.proofs.Held.Trees.{name_whole, whole_spelled, hung_plug, one_tree}
use Rattle.std.specs.FinSet as set
use Rattle.std.specs.FinMap as entry_map

pub priority_small : (key : ℕ) → priority_of key < 2 ^ 64
unfolding priority_of
priority_small key = omega arith

pub rank_small : (tree : Tree) → rank_of tree ≤ 2 ^ 64
rank_small Leaf = omega arith
rank_small (Node left c right) = omega (arith, priority_small c.key)

-- the word at the end of a hung path
pub hung_name : (arena : Arena) (s : List ℕ) (root : ℕ) (path : Path) (name : ℕ) → IsHung arena s root path name
    → slice_get s (place_at_end arena root path) ≡ Some name
hung_name arena s root [] name h = h
hung_name arena s root (st ∷ path) name h = at (st.left) h.0
  where
    at : (left : Bool) → HasNode arena s st.cell (if left then name else name_of st.other) (if left then name_of st.other else name)
        → slice_get s (block_at arena st.cell.block + (if left then 2 else 3)) ≡ Some name
    at true k = k.left_there
    at false k = k.right_there

-- a node of a step is high if the step and what hangs below it are
pub high_whole : (top : ℕ) (st : Step) (path : Path) (tree : Tree) → IsHigh top path (rank_of (whole_of st tree))
    → IsHeap (whole_of st tree) → IsHigh top (st ∷ path) (rank_of tree) × IsHeap tree
high_whole top st path tree high heap = at (st.left) high heap
  where
    at : (left : Bool) → IsHigh top path
        (rank_of (if left then Node tree st.cell st.other else Node st.other st.cell tree))
        → IsHeap (if left then Node tree st.cell st.other else Node st.other st.cell tree)
        → IsHigh top (st ∷ path) (rank_of tree) × IsHeap tree
    at true h k = ((k.0, k.1, k.3, h), k.2)
    at false h k = ((k.1, k.0, k.2, h), k.3)

-- and the other way round
pub whole_high : (top : ℕ) (st : Step) (path : Path) (tree : Tree) → IsHigh top (st ∷ path) (rank_of tree) → IsHeap tree
    → IsHigh top path (rank_of (whole_of st tree)) × IsHeap (whole_of st tree)
whole_high top st path tree high heap = (at st.left, both st.left)
  where
    at : (left : Bool) → IsHigh top path (rank_of (if left then Node tree st.cell st.other else Node st.other st.cell tree))
    at true = high.3
    at false = high.3

    both : (left : Bool) → IsHeap (if left then Node tree st.cell st.other else Node st.other st.cell tree)
    both true = (high.0, high.1, heap, high.2)
    both false = (high.1, high.0, high.2, heap)

pub high_plug : (top : ℕ) (path : Path) (tree : Tree) → IsHigh top path (rank_of tree) → IsHeap tree
    → (rank_of (plug path tree) ≤ top) × IsHeap (plug path tree)
high_plug top [] tree high heap = (high, heap)
high_plug top (st ∷ path) tree high heap =
    let whole = whole_high top st path tree high heap in
    high_plug top path (whole_of st tree) whole.0 whole.1

-- what hangs lower is high enough
pub high_lower : (top : ℕ) (path : Path) (m n : ℕ) → m ≤ n → IsHigh top path n → IsHigh top path m
high_lower top [] m n le h = omega arith
high_lower top (st ∷ path) m n le h = (omega (arith, h.0), h.1, h.2, h.3)

module _ (map : TreeMap) (s : List ℕ) where
  -- the whole tree
  pub at_tree : (f : Entries) (u : Blocks) (hold : TreeHolds map s f u) → HangsAt map [] hold.tree s
  at_tree f u hold = record {
    laid = hold.laid;
    hung = hold.spelled.0;
    spelled = hold.spelled.1;
    search = subst IsRising (sym (append-nil (cells_of hold.tree))) hold.search;
    high = rank_small hold.tree;
    heap = hold.heap;
  }

module _ {map : TreeMap} {s : List ℕ} where
  -- one step up
  pub at_up : (st : Step) (path : Path) {tree : Tree} → HangsAt map (st ∷ path) tree s → HangsAt map path (whole_of st tree) s
  at_up st path {tree} m =
      let heaps = whole_high (2 ^ 64) st path tree m.high m.heap in
      record {
        laid = m.laid;
        hung = subst (IsHung map.arena s map.root path) (sym (name_whole map.arena s st tree)) m.hung.2;
        spelled = whole_spelled map.arena s st tree m.hung.0 m.hung.1 m.spelled;
        search = subst IsRising (sym (cells_step st path tree)) m.search;
        high = heaps.0;
        heap = heaps.1;
      }

  module _ {path : Path} {tree : Tree} (m : HangsAt map path tree s) where
    abbrev pub all_cells : List Cell
    all_cells = before_of path ++ (cells_of tree ++ after_of path)

    -- one step down
    pub at_step : (st : Step) (below : Tree) → tree ≡ whole_of st below → HangsAt map (st ∷ path) below s
    at_step st below e =
        let hung : IsHung map.arena s map.root path (name_of (whole_of st below)) = subst (λ t. IsHung map.arena s map.root path (name_of t)) e m.hung in
        let parts = spelled_whole map.arena s st below (subst (IsSpelled map.arena s) e m.spelled) in
        let heaps = high_whole (2 ^ 64) st path below (subst (λ t. IsHigh (2 ^ 64) path (rank_of t)) e m.high) (subst IsHeap e m.heap) in
        record {
          laid = m.laid;
          hung = (parts.0, parts.1, subst (IsHung map.arena s map.root path) (name_whole map.arena s st below) hung);
          spelled = parts.2;
          search = subst IsRising (ap (λ t. before_of path ++ (cells_of t ++ after_of path)) e ∙ cells_step st path below) m.search;
          high = heaps.0;
          heap = heaps.1;
        }

    -- what holds of each cell that has a node holds of all
    pub at_all : (P : Cell → Type 0) → ((c : Cell) (x y : ℕ) → HasNode map.arena s c x y → P c) → AllByRecursion P all_cells
    at_all P step = all_append P (before_of path) (cells_of tree ++ after_of path) (all_before map.arena s P step map.root path (name_of tree) m.hung)
        (all_append P (cells_of tree) (after_of path) (all_tree map.arena s P step tree m.spelled)
        (all_after map.arena s P step map.root path (name_of tree) m.hung))

    pub at_times : (b : ℕ) → times_in b all_cells ≡ count_on b path + count_in b tree
    at_times b =
        let same : times_in b (cells_of (plug path tree)) ≡ times_in b all_cells = ap (times_in b) (cells_plug path tree) in
        omega (arith, times_cells b (plug path tree), count_plug b path tree)

    -- each block stands once
    pub at_once : (b : ℕ) → count_on b path + count_in b tree ≤ 1
    at_once b =
        let once : times_in b all_cells ≤ 1 =
        rising_once map.arena s b all_cells (at_all (λ c. slice_get s (block_at map.arena c.block) ≡ Some c.key) (λ c x y n. n.key)) m.search in
        omega (arith, at_times b)

    -- and is one of the arena's
    pub at_below : (b : ℕ) → 1 ≤ count_on b path + count_in b tree → b < map.arena.blocks
    at_below b k = times_all (λ d. d < map.arena.blocks) b all_cells
        (at_all (λ c. c.block < map.arena.blocks) (λ c x y n. n.below)) (omega (arith, at_times b))

    -- no block of the tree has the root
    pub at_outside : (b : ℕ) → 1 ≤ count_on b path + count_in b tree → ¬ IsInBlock map.arena b map.root
    at_outside b k = m.laid.outside b (at_below b k)

    pub at_name : slice_get s (place_at_end map.arena map.root path) ≡ Some (name_of tree)
    at_name = hung_name map.arena s map.root path (name_of tree) m.hung

    pub at_within : place_at_end map.arena map.root path < length s
    at_within = slice_get_within s (place_at_end map.arena map.root path) (name_of tree) at_name

    -- what a map that is held there says of it
    module _ {f : Entries} {u : Blocks} (hold : TreeHolds map s f u) where
      same_cells : cells_of hold.tree ≡ all_cells
      same_cells =
          let whole = hung_plug map.arena s map.root path tree m.hung m.spelled in
          ap cells_of (one_tree map.arena s hold.tree (plug path tree) (same_Some' (sym hold.spelled.0 ∙ whole.0))
          hold.spelled.1 whole.1) ∙ cells_plug path tree
        where
          same_Some' : Some (name_of hold.tree) ≡ Some (name_of (plug path tree)) → name_of hold.tree ≡ name_of (plug path tree)
          same_Some' e = cc

      pub at_value : (key : ℕ) → entry_map.get f key ≡ value_of key all_cells
      at_value key = hold.entries_are key ∙ ap (value_of key) same_cells

      pub at_used : (b : ℕ) → set.contains u b ≡ has_block b all_cells
      at_used b = hold.used_are b ∙ ap (has_block b) same_cells

      -- a used block is one of the tree's
      pub used_count : (b : ℕ) → set.contains u b ≡ true → 1 ≤ count_on b path + count_in b tree
      used_count b k = let t : 1 ≤ times_in b all_cells = has_times b all_cells (sym (at_used b) ∙ k) in omega (arith, at_times b)

      -- and the other way round
      pub used_from : (b : ℕ) → 1 ≤ count_on b path + count_in b tree → set.contains u b ≡ true
      used_from b k = at_used b ∙ times_has b all_cells (omega (arith, at_times b))

    -- the whole, from the root
    pub at_root : HangsAt map [] (plug path tree) s
    at_root =
        let whole = hung_plug map.arena s map.root path tree m.hung m.spelled in
        record {
          laid = m.laid;
          hung = whole.0;
          spelled = whole.1;
          search = subst IsRising (sym (append-nil (cells_of (plug path tree)) ∙ cells_plug path tree)) m.search;
          high = rank_small (plug path tree);
          heap = (high_plug (2 ^ 64) path tree m.high m.heap).1;
        }

    -- another place in the same list is in the same tree
    pub at_cells : {other_path : Path} {other : Tree} → HangsAt map other_path other s
        → before_of other_path ++ (cells_of other ++ after_of other_path) ≡ all_cells
    at_cells {other_path} {other} k =
        let one = hung_plug map.arena s map.root path tree m.hung m.spelled in
        let two = hung_plug map.arena s map.root other_path other k.hung k.spelled in
        sym (cells_plug other_path other)
        ∙ ap cells_of (one_tree map.arena s (plug other_path other) (plug path tree)
        (same_Some (name_of (plug other_path other)) (name_of (plug path tree)) (sym two.0 ∙ one.0)) two.1 one.1) ∙ cells_plug path tree

-- the tree has no more cells than there are blocks
pub at_room : (map : TreeMap) (s : List ℕ) (path : Path) (tree : Tree) (m : HangsAt map path tree s)
    → length (before_of path ++ (cells_of tree ++ after_of path)) ≤ map.arena.blocks
at_room map s path tree m = length_below map.arena.blocks (all_cells m)
    (λ b. rising_once map.arena s b (all_cells m)
    (at_all m (λ c. slice_get s (block_at map.arena c.block) ≡ Some c.key) (λ c x y n. n.key)) m.search)
    (at_all m (λ c. c.block < map.arena.blocks) (λ c x y n. n.below))
