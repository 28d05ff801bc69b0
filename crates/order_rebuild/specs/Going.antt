-- How far the lines have gone, at which place each item waits, and who may come.
use Rattle.std.specs.Prelude.{All, ◌≡◌, ℕ, suc, ◌<◌, ◌≤◌, Bool, true, false, List, length, slice_get, slice_index, Some, ◌==◌, sum_by}
use Rattle.std.specs.BinaryHeap.{IsHeap}
use Rattle.std.specs.Ordering.{nat_cmp, ordering_then}
use Rattle.std.specs.declared.cmp.Ordering.{Ordering}
use Rattle.std.specs.declared.cmp.Reverse.{Reverse}
use Rattle.history_model.specs.Sets.{flag}
use Rattle.order_rebuild.specs.declared.lines.Lines.{Lines}
use Rattle.order_rebuild.specs.Lines.{places, items, item_at, base_at, first_at, caller_of}

-- an item beside its caller; the least caller is the greatest of these
abbrev pub Comer : Type 0
Comer = Reverse (ℕ × ℕ)

abbrev pub comer_cmp : Comer → Comer → Ordering
comer_cmp x y = ordering_then (nat_cmp y.0.0 x.0.0) (nat_cmp y.0.1 x.0.1)

-- all that stand before the place in its line are gone: `next` has for each line the first place whose item is not
abbrev pub IsOpen : Lines → List ℕ → ℕ → Type 0
IsOpen l next i = first_at l i ≤ slice_index next (base_at l i)

-- the places below a line's `next` are of this line, and their items are placed
pub record AreGone (l : Lines) (left : List Bool) (next : List ℕ) : Type 0 where
  pub count : length next ≡ places l
  pub from : (b : ℕ) → b < places l → base_at l b ≡ b → b ≤ slice_index next b
  pub gone : (b j : ℕ) → b < places l → base_at l b ≡ b → b ≤ j → j < slice_index next b → (j < places l)
      × (base_at l j ≡ b) × (slice_get left (item_at l j) ≡ Some false)

-- the line can go no further
abbrev pub IsStopped : Lines → List Bool → List ℕ → ℕ → Type 0
IsStopped l left next b = slice_index next b < places l → base_at l (slice_index next b) ≡ b
    → slice_get left (item_at l (slice_index next b)) ≡ Some false → ⊥

-- each line can go no further, or has a place of the item p below n
abbrev pub AreStopped : Lines → List Bool → List ℕ → ℕ → ℕ → Type 0
AreStopped l left next p n = (b : ℕ) → b < places l → base_at l b ≡ b
    → (IsStopped l left next b → ⊥) → (k : ℕ) × (k < n) × (item_at l k ≡ p) × (base_at l k ≡ b)

-- each item waits at one of its places, named by one more, or at none and 0; those above are open
pub record AreWaits (l : Lines) (next wait : List ℕ) : Type 0 where
  pub count : length wait ≡ items l
  pub own : (q e : ℕ) → q < items l → slice_index wait q ≡ suc e → (e < places l) × (item_at l e ≡ q)
  pub above : (i : ℕ) → i < places l → slice_index wait (item_at l i) ≤ i → IsOpen l next i

-- and the place where it waits is not open, but for those that are still to be looked at
abbrev pub AreClosed : Lines → List ℕ → List ℕ → (ℕ → Type 0) → Type 0
AreClosed l next wait Due = (q e : ℕ) → q < items l → slice_index wait q ≡ suc e → IsOpen l next e → Due e

-- how often the item q is in the list
abbrev pub count_of : ℕ → List Comer → ℕ
count_of q ready = sum_by (λ x. flag (x.0.1 == q)) ready

-- it is an item beside its caller
abbrev pub IsKnown : Lines → Comer → Type 0
IsKnown l x = (x.0.1 < items l) × (x.0.0 ≡ caller_of l x.0.1)

-- the list has exactly the items that wait nowhere and are left, each once
pub record AreReady (l : Lines) (left : List Bool) (wait : List ℕ) (ready : List Comer) : Type 0 where
  pub ordered : IsHeap comer_cmp ready
  pub known : All (IsKnown l) ready
  pub here : (q : ℕ) → q < items l → slice_index wait q ≡ 0 → slice_get left q ≡ Some true → count_of q ready ≡ 1
  pub not_waiting : (q e : ℕ) → q < items l → slice_index wait q ≡ suc e → count_of q ready ≡ 0
  pub not_placed : (q : ℕ) → q < items l → slice_get left q ≡ Some false → count_of q ready ≡ 0
  pub waiting : (q e : ℕ) → q < items l → slice_index wait q ≡ suc e → slice_get left q ≡ Some true

-- whatever is left, the list stays right
abbrev pub KeepsReady : Lines → List ℕ → List Comer → List ℕ → List Comer → Type 0
KeepsReady l wait ready new_wait new_ready =
    (left : List Bool) → AreReady l left wait ready → AreReady l left new_wait new_ready
