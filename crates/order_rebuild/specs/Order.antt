-- The order: again and again, among the items that may come, the one of the least caller.
use Rattle.std.specs.Prelude.{◌≡◌, ◌≢◌, ℕ, ◌<◌, ◌≤◌, ◌⊎◌, List, slice_get, length, take, Some}
use Rattle.history_model.specs.Items.{UsedBefore}
use Rattle.history_model.specs.Legal.{IsIn}
use Rattle.history_model.specs.declared.placed.Spot.{Spot}

-- x has to come before y
abbrev pub Precedes : Spot → Spot → Type 0
Precedes x y = UsedBefore x.uses y.uses ⊎ ((x.caller ≡ y.caller) × (x.index < y.index))

-- the item at p may come after those that are placed
pub record MayCome (list : List Spot) (placed : List ℕ) (p : ℕ) (spot : Spot) : Type 0 where
  pub at : slice_get list p ≡ Some spot
  pub fresh : IsIn p placed → ⊥
  pub first : (q : ℕ) (other : Spot) → slice_get list q ≡ Some other → (IsIn q placed → ⊥) → q ≢ p
      → Precedes other spot → ⊥

-- and its caller is the least of those that may come
pub record IsNext (list : List Spot) (placed : List ℕ) (p : ℕ) : Type 0 where
  pub spot : Spot
  pub may : MayCome list placed p spot
  pub least : (q : ℕ) (other : Spot) → MayCome list placed q other → spot.caller ≤ other.caller

-- every place once, each the next after those before it
pub record IsOrder (list : List Spot) (out : List ℕ) : Type 0 where
  pub whole : (p : ℕ) → p < length list → IsIn p out
  pub each : (i p : ℕ) → slice_get out i ≡ Some p → IsNext list (take i out) p

-- no two items have the same caller and index, and some numbering keeps the order: each place has a number of its own,
-- and no item has to come before one with a lower number
pub record Orderable (list : List Spot) : Type 0 where
  pub apart : (p q : ℕ) (x y : Spot) → slice_get list p ≡ Some x → slice_get list q ≡ Some y → x.caller ≡ y.caller
      → x.index ≡ y.index → p ≡ q
  pub number : ℕ → ℕ
  pub own : (p q : ℕ) → p < length list → q < length list → number p ≡ number q → p ≡ q
  pub in_order : (p q : ℕ) (x y : Spot) → slice_get list p ≡ Some x → slice_get list q ≡ Some y → number p < number q
      → Precedes y x → ⊥

-- two orders of a list are one, with each place once, and none that has to come before one that stands earlier
abbrev pub OneOrder : Type 0
OneOrder = (list : List Spot) (one two : List ℕ) → Orderable list → IsOrder list one → IsOrder list two → one ≡ two
