-- The lines in one row: where each begins, who stands level, and the places of an item.
use Rattle.std.specs.Prelude.{◌≡◌, ◌≢◌, ℕ, suc, ◌<◌, ◌≤◌, List, length, slice_get, slice_index, Some, vec_len}
use Rattle.order_rebuild.specs.declared.lines.Lines.{Lines}
use Rattle.history_model.specs.declared.placed.Spot.{Spot}
use Rattle.order_rebuild.specs.Order.{Precedes, Orderable}

-- at each place the first of those that have the same f, if f never falls
pub record AreStarts (f : ℕ → ℕ) (m : ℕ) (starts : List ℕ) : Type 0 where
  pub count : length starts ≡ m
  pub low : (i : ℕ) → i < m → slice_index starts i ≤ i
  pub same : (i j : ℕ) → i < m → slice_index starts i ≤ j → j ≤ i → f j ≡ f i
  pub less : (i j : ℕ) → i < m → j < slice_index starts i → f j < f i

-- the places of each item from its last one down: `before` and `last` name a place by one more, and 0 if there is none
pub record AreChains (item : List ℕ) (m n : ℕ) (before last : List ℕ) : Type 0 where
  pub count : length before ≡ m
  pub below : (i : ℕ) → i < m → slice_index before i ≤ i
  pub own : (i k : ℕ) → i < m → slice_index before i ≡ suc k → slice_index item k ≡ slice_index item i
  pub none : (i k : ℕ) → i < m → slice_index before i ≤ k → k < i → slice_index item k ≢ slice_index item i
  pub last_most : (p : ℕ) → p < n → slice_index last p ≤ m
  pub last_own : (p k : ℕ) → p < n → slice_index last p ≡ suc k → slice_index item k ≡ p
  pub last_none : (p k : ℕ) → p < n → slice_index last p ≤ k → k < m → slice_index item k ≢ p

abbrev pub places : Lines → ℕ
places l = vec_len l.item

abbrev pub items : Lines → ℕ
items l = vec_len l.last

abbrev pub item_at : Lines → ℕ → ℕ
item_at l i = slice_index l.item.items i

abbrev pub base_at : Lines → ℕ → ℕ
base_at l i = slice_index l.base.items i

abbrev pub first_at : Lines → ℕ → ℕ
first_at l i = slice_index l.first.items i

abbrev pub last_of : Lines → ℕ → ℕ
last_of l p = slice_index l.last.items p

abbrev pub caller_of : Lines → ℕ → ℕ
caller_of l p = slice_index l.callers.items p

-- each line stands in one piece, and in it those that stand level
pub record AreRows (l : Lines) : Type 0 where
  pub bases : vec_len l.base ≡ places l
  pub firsts : vec_len l.first ≡ places l
  pub callers : vec_len l.callers ≡ items l
  pub within : (i : ℕ) → i < places l → item_at l i < items l
  pub low : (i : ℕ) → i < places l → base_at l i ≤ first_at l i
  pub up : (i : ℕ) → i < places l → first_at l i ≤ i
  pub same : (i j : ℕ) → i < places l → base_at l i ≤ j → j ≤ i → base_at l j ≡ base_at l i
  pub rises : (i j : ℕ) → i < places l → j ≤ i → base_at l j ≡ base_at l i → first_at l j ≤ first_at l i
  pub level : (i j : ℕ) → i < places l → first_at l i ≤ j → j ≤ i → first_at l j ≡ first_at l i
  pub chains : AreChains l.item.items (places l) (items l) l.before.items l.last.items
  pub somewhere : (p : ℕ) → p < items l → 0 < last_of l p

-- and an item has to come before another exactly if it stands before it in some line
pub record AreLines (list : List Spot) (l : Lines) : Type 0 where
  pub rows : AreRows l
  pub count : items l ≡ length list
  pub caller : (p : ℕ) (s : Spot) → slice_get list p ≡ Some s → caller_of l p ≡ s.caller
  pub to : (p q : ℕ) (x y : Spot) → slice_get list p ≡ Some x → slice_get list q ≡ Some y → p ≢ q → Precedes x y
      → (i : ℕ) × (j : ℕ) × (j < places l) × (base_at l j ≤ i) × (i < first_at l j) × (item_at l i ≡ p)
      × (item_at l j ≡ q)
  pub from : (i j : ℕ) (x y : Spot) → j < places l → base_at l j ≤ i → i < first_at l j
      → slice_get list (item_at l i) ≡ Some x → slice_get list (item_at l j) ≡ Some y → Precedes x y
  pub apart : (i j : ℕ) → j < places l → base_at l j ≤ i → i < first_at l j → item_at l i ≢ item_at l j

-- the lines are those of the list, at least if it can be put in order
pub record AreLinesOf (list : List Spot) (l : Lines) : Type 0 where
  pub rows : AreRows l
  pub count : items l ≡ length list
  pub lines : Orderable list → AreLines list l
