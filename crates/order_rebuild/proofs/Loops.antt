-- What loops over uses keep.
use Rattle.order_rebuild.proofs.Common.{◌≡◌, ℕ, ◌<◌, ◌≤◌, List, slice_get, Some, LockUse, use_key}

-- f rises along the first n of the list
abbrev pub IsRisingBelow : {A : Type 0} → (A → ℕ) → List A → ℕ → Type 0
IsRisingBelow f xs n = (i j : ℕ) (x y : _) → slice_get xs i ≡ Some x → slice_get xs j ≡ Some y → i < j → j < n → f x < f y

abbrev pub IsLeastBelow : List LockUse → ℕ → ℕ → ℕ → Type 0
IsLeastBelow us k low n = (i : ℕ) (u : LockUse) → i < n → slice_get us i ≡ Some u → u.lock ≡ k → low ≤ use_key u

abbrev pub NoneAboveBelow : List LockUse → ℕ → ℕ → ℕ → Type 0
NoneAboveBelow us k low n = (i : ℕ) (u : LockUse) → i < n → slice_get us i ≡ Some u → u.lock ≡ k → low < use_key u → ⊥
