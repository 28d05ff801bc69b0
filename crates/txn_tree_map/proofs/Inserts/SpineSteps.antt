-- A tree laid by its right spine, in one word list.
use Rattle.txn_tree_map.proofs.Common.{◌≡◌, ◌≢◌, ℕ, ◌+◌, ◌^◌, ◌<◌, ◌≤◌, Bool, true, false, List, [], ◌∷◌, ◌++◌, length, slice_get, slice_set, Some, None, ◌⊎◌}
use Rattle.txn_tree_map.proofs.Common.{inl, inr, refl, sym, ap, ◌∙◌, subst, arith, if◌then◌else◌, length-append, append-nil, length-set, same_Some, nat_cmp}
use Rattle.txn_tree_map.proofs.Common.{AllByRecursion, get_set_same, get_set_other, KeepsOthers, block_at, IsHead, IsInBlock, Lacks, Cell, Entries, Blocks}
use Rattle.txn_tree_map.proofs.Common.{value_of, has_block, HasMapApart, HoldsApart, IsOwn, IsUsedIn, in_here, all_append, all_first, all_last, TreeMap, Tree}
use Rattle.txn_tree_map.proofs.Common.{priority_of, rank_of, name_of, cells_of, IsRising, TreeHolds, tree_part, Leaf, Node, Step, Path, before_of, after_of}
use Rattle.txn_tree_map.proofs.Common.{IsBelow, HangsAt, IsMissing, CanPut, IsPut, IsWhole, Splits, IsNameIn}
use Rattle.txn_tree_map.proofs.Plugs.{whole_of}
use Rattle.txn_tree_map.specs.Spines.{GoesRight, blocks_on, HasSpine, IsSeatBelow}
use Rattle.txn_tree_map.proofs.Held.Rising.{below_more, rising_below, value_there}
use Rattle.txn_tree_map.proofs.Held.Trees.{count_in, cells_step, spelled_stays}
use Rattle.txn_tree_map.proofs.Held.Places.{priority_small, at_up, at_step, at_tree, at_cells, at_name, at_used}
use Rattle.txn_tree_map.proofs.Held.Priorities.{priorities_differ}
use Rattle.txn_tree_map.proofs.Held.Hanging.{keeps_set, keeps_none}
use Rattle.txn_tree_map.proofs.Searches.SearchSteps.{step_down}
use Rattle.txn_tree_map.proofs.Inserts.PutSteps.{put_whole, seat_apart, put_is_at, put_done}
use Rattle.txn_tree_map.proofs.Maps.{at_headed, put_apart}
use Rattle.std.specs.FinSet as set
use Rattle.std.specs.FinMap as entry_map

-- nothing stands to the right of the spine
pub after_none : (path : Path) → GoesRight path → after_of path ≡ []
after_none [] right = refl
after_none (st ∷ path) right = ap (λ left. (if left then st.cell ∷ cells_of st.other else []) ++ after_of path) right.0 ∙ after_none path right.1

-- the lowest step of a path with this last block
pub record IsLastStep (path : Path) (bs : List ℕ) (b : ℕ) : Type 0 where
  pub st : Step
  pub up : Path
  pub is : path ≡ st ∷ up
  pub is_block : st.cell.block ≡ b
  pub blocks_are : blocks_on up ≡ bs

same_last : (bs ds : List ℕ) (b d : ℕ) → bs ++ b ∷ [] ≡ ds ++ d ∷ [] → (b ≡ d) × (bs ≡ ds)
same_last [] [] b d e = (cc, refl)
same_last [] (x ∷ ds) b d e = absurd (omega (arith, ap length e, length-append ds (d ∷ [])))
same_last (x ∷ bs) [] b d e = absurd (omega (arith, ap length e, length-append bs (b ∷ [])))
same_last (x ∷ bs) (y ∷ ds) b d e =
    let rest : bs ++ b ∷ [] ≡ ds ++ d ∷ [] = cc in
    let first : x ≡ y = cc in
    let k = same_last bs ds b d rest in
    (k.0, λ i. first i ∷ k.1 i)

pub last_step : (path : Path) (bs : List ℕ) (b : ℕ) → blocks_on path ≡ bs ++ b ∷ [] → IsLastStep path bs b
last_step [] bs b e = absurd (omega (arith, ap length e, length-append bs (b ∷ [])))
last_step (st ∷ up) bs b e =
    let k = same_last (blocks_on up) bs st.cell.block b e in
    record { st = st; up = up; is = refl; is_block = k.0; blocks_are = k.1 }

pub no_step : (path : Path) → blocks_on path ≡ [] → path ≡ []
no_step [] e = refl
no_step (st ∷ up) e = absurd (omega (arith, ap length e, length-append (blocks_on up) (st.cell.block ∷ [])))

-- the spine up to here, with what hangs below it, which reaches no higher than the key's priority
pub record IsUp (map : TreeMap) (key : ℕ) (words blocks : List ℕ) : Type 0 where
  pub path : Path
  pub rest : Tree
  pub right : GoesRight path
  pub blocks_are : blocks_on path ≡ blocks
  pub is_at : HangsAt map path rest words
  pub below : IsBelow key (before_of path ++ cells_of rest)
  pub lower : rank_of rest ≤ priority_of key

module _ {map : TreeMap} (key : ℕ) {s : List ℕ} where
  pub up_first : {blocks : List ℕ} → HasSpine map key s blocks → IsUp map key s blocks
  up_first h = record {
    path = h.path;
    rest = Leaf;
    right = h.right;
    blocks_are = h.blocks_are;
    is_at = h.is_at;
    below = subst (IsBelow key) (sym (append-nil (before_of h.path))) h.below;
    lower = omega arith;
  }

  -- the lowest block of the spine
  module _ (bs : List ℕ) (b : ℕ) (h : IsUp map key s (bs ++ b ∷ [])) where
    abbrev step : IsLastStep h.path bs b
    step = last_step h.path bs b h.blocks_are

    stepped : HangsAt map (step.st ∷ step.up) h.rest s
    stepped = subst (λ p. HangsAt map p h.rest s) step.is h.is_at

    stepped_right : GoesRight (step.st ∷ step.up)
    stepped_right = subst GoesRight step.is h.right

    stepped_below : IsBelow key (before_of (step.st ∷ step.up) ++ cells_of h.rest)
    stepped_below = subst (λ p. IsBelow key (before_of p ++ cells_of h.rest)) step.is h.below

    pub up_below : b < map.arena.blocks
    up_below = subst (λ d. d < map.arena.blocks) step.is_block (stepped.hung.0).below

    pub up_key : (k : ℕ) → slice_get s (block_at map.arena b) ≡ Some k → (step.st).cell.key ≡ k
    up_key k there = same_Some (step.st).cell.key k
        (sym (stepped.hung.0).key ∙ ap (λ d. slice_get s (block_at map.arena d)) step.is_block ∙ there)

    -- it is higher than the key's node, which hangs right below it
    pub up_seat : (k : ℕ) → slice_get s (block_at map.arena b) ≡ Some k → priority_of key < priority_of k
        → IsSeatBelow map key (block_at map.arena b + 3) s (bs ++ b ∷ [])
    up_seat k there lt =
        let high : priority_of key < priority_of (step.st).cell.key = subst (λ d. priority_of key < priority_of d) (sym (up_key k there)) lt in
        let n : ℕ = block_at map.arena (step.st).cell.block in
        let side : n + (if (step.st).left then 2 else 3) ≡ n + 3 = ap (λ left. n + (if left then 2 else 3)) stepped_right.0 in
        let here : n ≡ block_at map.arena b = ap (block_at map.arena) step.is_block in
        record {
          name = name_of h.rest;
          seat = record {
            path = step.st ∷ step.up;
            rest = h.rest;
            is_at = stepped;
            at = sym (side ∙ ap (λ d. d + 3) here);
            low = all_first (λ c. c.key < key) (before_of (step.st ∷ step.up)) (cells_of h.rest) stepped_below;
            high = subst (λ cs. AllByRecursion (λ c. key < c.key) cs) (sym (after_none (step.st ∷ step.up) stepped_right)) tt;
            higher = (omega arith, stepped.high.1, stepped.high.2, stepped.high.3);
            lower = h.lower;
            is_name = refl;
          };
          right = stepped_right;
          blocks_are = ap blocks_on (sym step.is) ∙ h.blocks_are;
        }

    -- its key is below the new one
    up_other : (step.st).cell.key < key
    up_other =
        let c : Cell = (step.st).cell in
        let cs : List Cell = cells_of (step.st).other in
        let all : IsBelow key (before_of (step.st ∷ step.up)) =
        all_first (λ d. d.key < key) (before_of (step.st ∷ step.up)) (cells_of h.rest) stepped_below in
        let right : IsBelow key (before_of step.up ++ (cs ++ c ∷ [])) =
        subst (λ left. IsBelow key (before_of step.up ++ (if left then [] else cs ++ c ∷ []))) stepped_right.0 all in
        (all_last (λ d. d.key < key) cs (c ∷ []) (all_last (λ d. d.key < key) (before_of step.up) (cs ++ c ∷ []) right)).0

    rank_whole : rank_of (whole_of step.st h.rest) ≡ priority_of (step.st).cell.key + 1
    rank_whole = at (step.st).left
      where
        at : (left : Bool) → rank_of (if left then Node h.rest (step.st).cell (step.st).other else Node (step.st).other (step.st).cell h.rest)
            ≡ priority_of (step.st).cell.key + 1
        at true = refl
        at false = refl

    -- if it is lower, it is passed, with its left subtree and with what hangs below it
    pub up_more : (k : ℕ) → slice_get s (block_at map.arena b) ≡ Some k → key < 2 ^ 64 → k < 2 ^ 64 → priority_of k ≤ priority_of key → IsUp map key s bs
    up_more k there low_key low_k le =
        let is_key = up_key k there in
        let rank : rank_of (whole_of step.st h.rest) ≡ priority_of k + 1 = rank_whole ∙ ap (λ d. priority_of d + 1) is_key in
        let other : k < key = subst (λ d. d < key) is_key up_other in
        let ne : priority_of k ≢ priority_of key = λ e. omega (arith, priorities_differ k key low_k low_key e) in
        let none : after_of (step.st ∷ step.up) ≡ [] = after_none (step.st ∷ step.up) stepped_right in
        let none_up = after_none step.up stepped_right.1 in
        let cells : before_of (step.st ∷ step.up) ++ cells_of h.rest ≡ before_of step.up ++ cells_of (whole_of step.st h.rest) =
        ap (λ cs. before_of (step.st ∷ step.up) ++ cs) (sym (append-nil (cells_of h.rest))
        ∙ ap (λ cs. cells_of h.rest ++ cs) (sym none))
        ∙ sym (cells_step step.st step.up h.rest)
        ∙ ap (λ cs. before_of step.up ++ cs) (ap (λ cs. cells_of (whole_of step.st h.rest) ++ cs) none_up ∙ append-nil (cells_of (whole_of step.st h.rest))) in
        record {
          path = step.up;
          rest = whole_of step.st h.rest;
          right = stepped_right.1;
          blocks_are = step.blocks_are;
          is_at = at_up step.st step.up stepped;
          below = subst (IsBelow key) cells stepped_below;
          lower = omega arith;
        }

  -- all were passed
  pub up_all : IsUp map key s [] → IsSeatBelow map key map.root s []
  up_all h =
      let none : h.path ≡ [] = no_step h.path h.blocks_are in
      let m : HangsAt map [] h.rest s = subst (λ p. HangsAt map p h.rest s) none h.is_at in
      record {
        name = name_of h.rest;
        seat = record {
          path = [];
          rest = h.rest;
          is_at = m;
          at = refl;
          low = tt;
          high = tt;
          higher = omega (arith, priority_small key);
          lower = h.lower;
          is_name = refl;
        };
        right = tt;
        blocks_are = refl;
      }

  -- the map of no entries has no nodes
  pub spine_empty : {u : Blocks} → TreeHolds map s entry_map.empty u → HasSpine map key s []
  spine_empty {u} hold = record {
    path = [];
    right = tt;
    blocks_are = refl;
    is_at = subst (λ t. HangsAt map [] t s) (leaf hold.tree hold.search (λ q. sym (hold.entries_are q) ∙ entry_map.get-empty nat_cmp q))
        (at_tree map s entry_map.empty u hold);
    below = tt;
  }
    where
      leaf : (tree : Tree) → IsRising (cells_of tree) → ((q : ℕ) → value_of q (cells_of tree) ≡ None) → tree ≡ Leaf
      leaf Leaf rising none = refl
      leaf (Node left c right) rising none =
          let there : value_of c.key (cells_of left ++ c ∷ cells_of right) ≡ Some c.value =
          value_there c.key (cells_of left) (cells_of right) c refl (rising_below (cells_of left) (cells_of right) c rising) in
          let no : None ≡ Some c.value = sym (none c.key) ∙ there in
          absurd (cc)

-- the keys are below each greater key too
pub spine_above : (map : TreeMap) (j k : ℕ) (s bs : List ℕ) → j ≤ k → HasSpine map j s bs → HasSpine map k s bs
spine_above map j k s bs le h = record {
  path = h.path;
  right = h.right;
  blocks_are = h.blocks_are;
  is_at = h.is_at;
  below = below_more j k (before_of h.path) le h.below;
}

-- the spine stands if heads alone are written
pub spine_headed : (map : TreeMap) (key : ℕ) (s t bs : List ℕ) → KeepsOthers (IsHead map.arena) s t → HasSpine map key s bs → HasSpine map key t bs
spine_headed map key s t bs kept h = record {
  path = h.path;
  right = h.right;
  blocks_are = h.blocks_are;
  is_at = at_headed h.is_at kept;
  below = h.below;
}

-- the word at the seat names what hangs there
pub seat_name : {map : TreeMap} {key place : ℕ} {s blocks : List ℕ} (h : IsSeatBelow map key place s blocks) → slice_get s place ≡ Some h.name
seat_name {s} h = ap (slice_get s) h.seat.at ∙ at_name h.seat.is_at ∙ ap Some h.seat.is_name

-- the key is missing, and the block may be put in
module _ {map : TreeMap} {key : ℕ} (block : ℕ) {s bs : List ℕ} (spine : HasSpine map key s bs) where
  abbrev pub missing : IsMissing map key s
  missing = record {
    path = spine.path;
    is_at = spine.is_at;
    low = spine.below;
    high = subst (λ cs. AllByRecursion (λ c. key < c.key) cs) (sym (after_none spine.path spine.right)) tt;
  }

  abbrev cells : List Cell
  cells = before_of spine.path ++ after_of spine.path

  module _ (order : HasMapApart (tree_part map) s) (low : block < map.arena.blocks) (unused : ¬ IsUsedIn (tree_part map) s block) where
    pub no_block : (m : Bool) → has_block block cells ≡ m → has_block block cells ≡ false
    no_block false e = e
    no_block true e = absurd (unused (
      order.entries,
      order.used,
      order.holds.map,
      at_used spine.is_at order.holds.map block ∙ e,
    ))

    abbrev pub can : CanPut map key block s
    can = record { missing = missing; below = low; apart = no_block (has_block block cells) refl }

-- the key's node is written, and named at its seat
module _ (map : TreeMap) (key value block place : ℕ) (s bs blocks : List ℕ) (spine : HasSpine map key s bs)
    (seat : IsSeatBelow map key place s blocks) (order : HasMapApart (tree_part map) s) (low : block < map.arena.blocks)
    (unused : ¬ IsUsedIn (tree_part map) s block) where
  abbrev can_put : CanPut map key block s
  can_put = can block spine order low unused

  abbrev rest : Tree
  rest = seat.seat.rest

  abbrev at : ℕ
  at = block_at map.arena block

  abbrev keyed : List ℕ
  keyed = slice_set (slice_set s at key) (at + 1) value

  abbrev lefted : List ℕ
  lefted = slice_set keyed (at + 2) seat.name

  abbrev node : List ℕ
  node = slice_set lefted (at + 3) 0

  -- the words afterwards
  abbrev pub laid_words : List ℕ
  laid_words = slice_set node place (block + 1)

  -- what hangs at the seat has lower keys alone
  rest_below : IsBelow key (cells_of rest)
  rest_below =
      let P : Cell → Type 0 = λ c. c.key < key in
      let all : IsBelow key (before_of spine.path ++ ([] ++ after_of spine.path)) =
      all_append P (before_of spine.path) (after_of spine.path) spine.below (subst (IsBelow key) (sym (after_none spine.path spine.right)) tt) in
      let same =
      at_cells spine.is_at seat.seat.is_at in
      all_first P (cells_of rest) (after_of seat.seat.path)
      (all_last P (before_of seat.seat.path) (cells_of rest ++ after_of seat.seat.path) (subst (IsBelow key) (sym same) all))

  fits : at + 4 ≤ length s
  fits = seat.seat.is_at.laid.arena.blocks block low

  long : length keyed ≡ length s
  long = length-set (slice_set s at key) (at + 1) value ∙ length-set s at key

  -- a word in another block stays
  node_other : {d : ℕ} (a : ℕ) → 1 ≤ count_in d rest → IsInBlock map.arena d a → slice_get node a ≡ slice_get keyed a
  node_other {d} a k mine =
      let ne : d ≢ block = seat_apart value can_put seat.seat d (omega arith) in
      get_set_other lefted (at + 3) a 0 (λ e. ne (omega (arith, mine.low, mine.high)))
      ∙ get_set_other keyed (at + 2) a seat.name (λ e. ne (omega (arith, mine.low, mine.high)))

  whole : IsWhole map key block seat.name rest keyed
  whole = put_whole value can_put seat.seat

  name_mine : (a : ℕ) → (a ≡ at + 2) ⊎ (a ≡ at + 3) → IsNameIn map block rest a
  name_mine a k = record { owner = block; mine = inl refl; place = k }

  -- all that hung at the seat is the node's left subtree
  abbrev parted : Splits map key block seat.name keyed node
  parted = record {
    tree = rest;
    whole = whole;
    left = rest;
    right = Leaf;
    left_there = (
      get_set_other lefted (at + 3) (at + 2) 0 (λ e. omega arith)
          ∙ get_set_same keyed (at + 2) seat.name (omega (arith, fits, long)) ∙ ap Some (sym seat.seat.is_name),
      spelled_stays map.arena keyed node rest (λ b. node_other) whole.spelled,
    );
    right_there = (get_set_same lefted (at + 3) 0 (omega (arith, fits, long, length-set keyed (at + 2) seat.name)), tt);
    cells = sym (append-nil (cells_of rest));
    low = rest_below;
    high = tt;
    left_lower = seat.seat.lower;
    right_lower = omega arith;
    left_heap = seat.seat.is_at.heap;
    right_heap = tt;
    kept = keeps_set 0
        (keeps_set seat.name (keeps_none (IsNameIn map block rest) keyed) (name_mine (at + 2) (inl refl)))
        (name_mine (at + 3) (inr refl));
  }

  pub laid_put : IsPut map key value block s laid_words
  laid_put = subst (λ p. IsPut map key value block s (slice_set node p (block + 1))) (sym seat.seat.at)
      (put_done value can_put seat.seat parted)

  abbrev new_cell : Cell
  new_cell = record { block = block; key = key; value = value }

  -- the new node is the lowest of the spine
  pub laid_spine : HasSpine map (key + 1) laid_words (blocks ++ block ∷ [])
  laid_spine =
      let m : HangsAt map seat.seat.path (Node rest new_cell Leaf) laid_words =
      subst (λ p. HangsAt map seat.seat.path (Node rest new_cell Leaf) (slice_set node p (block + 1))) (sym seat.seat.at)
      (put_is_at value can_put seat.seat parted) in
      let P : Cell → Type 0 = λ c. c.key < key + 1 in
      record {
        path = step_down false rest new_cell Leaf ∷ seat.seat.path;
        right = (refl, seat.right);
        blocks_are = ap (λ ds. ds ++ block ∷ []) seat.blocks_are;
        is_at = at_step m (step_down false rest new_cell Leaf) Leaf refl;
        below = all_append P (before_of seat.seat.path) (cells_of rest ++ new_cell ∷ [])
            (below_more key (key + 1) (before_of seat.seat.path) (omega arith) seat.seat.low)
            (all_append P (cells_of rest) (new_cell ∷ []) (below_more key (key + 1) (cells_of rest) (omega arith) rest_below) (omega arith, tt));
      }

  module _ (lacks : Lacks map.arena block s) where
    pub laid_apart : (f : Entries) (u v : Blocks) → HoldsApart (tree_part map) s f u v
        → HoldsApart (tree_part map) laid_words (entry_map.insert f key value) (set.insert u block) v
    laid_apart f u v hold = put_apart hold (lacks v hold.free_lists) laid_put

    -- the words that were written are the map's own
    pub laid_own : KeepsOthers (IsOwn (tree_part map) key s laid_words) s laid_words
    laid_own =
        let none : IsMissing map key s = laid_put.before.missing in
        record {
          count = laid_put.kept.count;
          same = λ a no. laid_put.kept.same a (λ k. no (elim k [
            | inl e ↦ inl e
            | inr m ↦ inr (inl (elim (m.1) [
              | inl e ↦ (
                block,
                inr (
                  entry_map.insert order.entries key value,
                  set.insert order.used block,
                  (laid_apart order.entries order.used order.free order.holds).map,
                  in_here order.used block,
                ),
                subst (λ d. IsInBlock map.arena d a) e m.2,
              )
              | inr z ↦ (
                m.0,
                inl (
                  order.entries,
                  order.used,
                  order.holds.map,
                  at_used none.is_at order.holds.map m.0 ∙ z,
                ),
                m.2,
              )
            ]))
          ]));
        }
