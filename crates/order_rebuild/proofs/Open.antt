-- The items that are left, and those of them that may come.
use Rattle.order_rebuild.proofs.Common.{IsIn, Spot, Precedes}
use Rattle.std.specs.Prelude.{◌≡◌, ◌≢◌, ℕ, ◌≤◌, Bool, true, false, List, slice_get, length, Some}

-- the marks of those that are not placed
pub record IsRest (list : List Spot) (placed : List ℕ) (left : List Bool) : Type 0 where
  pub count : length left ≡ length list
  pub open_ : (p : ℕ) → slice_get left p ≡ Some true → IsIn p placed → ⊥
  pub shut : (p : ℕ) → slice_get left p ≡ Some false → IsIn p placed

-- by the marks: the item at p is left, and none that is left has to come before it
pub record OpenAt (list : List Spot) (left : List Bool) (p : ℕ) (spot : Spot) : Type 0 where
  pub at : slice_get list p ≡ Some spot
  pub mark : slice_get left p ≡ Some true
  pub first : (q : ℕ) (other : Spot) → slice_get list q ≡ Some other → slice_get left q ≡ Some true → q ≢ p
      → Precedes other spot → ⊥

-- no item is open
abbrev pub NoneOpen : List Spot → List Bool → Type 0
NoneOpen list left = (p : ℕ) (spot : Spot) → OpenAt list left p spot → ⊥

-- the item at p is open, and of the least caller
pub record LeastOpen (list : List Spot) (left : List Bool) (p : ℕ) : Type 0 where
  pub spot : Spot
  pub is_open : OpenAt list left p spot
  pub least : (q : ℕ) (other : Spot) → OpenAt list left q other → spot.caller ≤ other.caller
