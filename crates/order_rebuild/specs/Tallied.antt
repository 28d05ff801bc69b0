-- Versions followed and readers tallied: what of each lock's uses is placed, and what that says of a list once all are.
use Rattle.std.specs.Prelude.{◌≡◌, ℕ, ◌+◌, true, false, List, slice_get, Some}
use Rattle.history_model.specs.declared.item.LockUse.{LockUse}
use Rattle.order_rebuild.specs.Turns.{IsRising}

-- the lock has the use's version, and if it writes no reader of that version is left
abbrev pub MayUse : (ℕ → ℕ) → (ℕ → ℕ) → LockUse → Type 0
MayUse version readers u = (u.version ≡ version u.lock) × (u.wrote ≡ true → readers u.lock ≡ 0)

-- an item's uses were due, and the locks go on by them
pub record IsStep (us : List LockUse) (rows : ℕ → ℕ → ℕ) (version readers new_version new_readers : ℕ → ℕ) : Type 0 where
  pub rising : IsRising us
  pub due : (j : ℕ) (u : LockUse) → slice_get us j ≡ Some u → MayUse version readers u
  pub wrote : (j : ℕ) (u : LockUse) → slice_get us j ≡ Some u → u.wrote ≡ true
      → (new_version u.lock ≡ version u.lock + 1) × (new_readers u.lock ≡ rows u.lock (version u.lock + 1))
  pub read : (j : ℕ) (u : LockUse) → slice_get us j ≡ Some u → u.wrote ≡ false
      → (new_version u.lock ≡ version u.lock) × (readers u.lock ≡ new_readers u.lock + 1)
  pub other : (k : ℕ) → ((j : ℕ) (u : LockUse) → slice_get us j ≡ Some u → u.lock ≡ k → ⊥)
      → (new_version k ≡ version k) × (new_readers k ≡ readers k)
