-- The items that are left, each caller's side by side in the list.
use Rattle.std.specs.Prelude.{◌≡◌, ℕ, ◌+◌, ◌<◌, ◌≤◌, Bool, true, List, length, slice_get, Some}
use Rattle.history_model.specs.declared.placed.Spot.{Spot}
use Rattle.order_rebuild.specs.declared.lanes.Lane.{Lane}

abbrev pub IsInLane : ℕ → Lane → Type 0
IsInLane p lane = (lane.next ≤ p) × (p < lane.end)

-- the lane's items are of its caller, by rising index
pub record IsLane (list : List Spot) (lane : Lane) : Type 0 where
  pub low : lane.next ≤ lane.end
  pub inside : lane.end ≤ length list
  pub caller : (p : ℕ) (s : Spot) → IsInLane p lane → slice_get list p ≡ Some s → s.caller ≡ lane.caller
  pub rises : (p q : ℕ) (x y : Spot) → IsInLane p lane → p < q → q < lane.end → slice_get list p ≡ Some x
      → slice_get list q ≡ Some y → x.index < y.index

-- the lanes of the items below n
pub record AreCut (list : List Spot) (n : ℕ) (lanes : List Lane) : Type 0 where
  pub each : (i : ℕ) (lane : Lane) → slice_get lanes i ≡ Some lane → IsLane list lane
  pub all : (p : ℕ) → p < n → (i : ℕ) × (lane : Lane) × (slice_get lanes i ≡ Some lane) × IsInLane p lane

-- the items that are left are those of the lanes, and each caller has one lane, by rising caller
pub record AreLanes (list : List Spot) (left : List Bool) (lanes : List Lane) : Type 0 where
  pub each : (i : ℕ) (lane : Lane) → slice_get lanes i ≡ Some lane → IsLane list lane
  pub within : (i p : ℕ) (lane : Lane) → slice_get lanes i ≡ Some lane → IsInLane p lane → slice_get left p ≡ Some true
  pub all : (p : ℕ) → slice_get left p ≡ Some true
      → (i : ℕ) × (lane : Lane) × (slice_get lanes i ≡ Some lane) × IsInLane p lane
  pub rising : (i j : ℕ) (a b : Lane) → slice_get lanes i ≡ Some a → slice_get lanes j ≡ Some b
      → i < j → a.caller < b.caller

-- the lane without its first item
abbrev pub shorter : Lane → Lane
shorter lane = record { caller = lane.caller; next = lane.next + 1; end = lane.end }
