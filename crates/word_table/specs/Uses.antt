-- What an attempt has used, lock by lock, and lists of it.
use Rattle.std.specs.Prelude.{◌≡◌, ℕ, ◌/◌, ◌%◌, ◌<◌, List, Some, slice_get, slice_index}
use Rattle.std.specs.Int.{bit_at}
use Rattle.history_model.specs.declared.TheConstants.{LOCKS}
use Rattle.history_model.specs.declared.item.LockUse.{LockUse}
use Rattle.history_model.specs.declared.view.View.{View}
use Rattle.history_model.specs.Legal.{IsIn}
use Rattle.history_model.specs.Sets.{has, flag}
use Rattle.locks_rule.specs.Versions.{locks_of}
use Rattle.word_table.specs.declared.copies.VersionCopy.{VersionCopy}
use Rattle.word_table.specs.Versions.{HasUseOf}

-- the uses stand by rising lock, so that each lock stands once
abbrev pub AreRising : List LockUse → Type 0
AreRising uses =
    (p q : ℕ) (x y : LockUse)
    → slice_get uses p ≡ Some x → slice_get uses q ≡ Some y → p < q → x.lock < y.lock

-- this is what the attempt has used of a lock
pub record IsUseOf (v : View) (u : LockUse) : Type 0 where
  pub found : IsIn (u.lock, u.version) v.uses
  pub once : (x : ℕ) → IsIn (u.lock, x) v.uses → x ≡ u.version
  pub wrote : u.wrote ≡ has u.lock (locks_of v.undo)

-- and these are all that it has used, by rising lock
pub record AreUsesOf (v : View) (listed : List LockUse) : Type 0 where
  pub rising : AreRising listed
  pub each : (u : LockUse) → IsIn u listed → IsUseOf v u
  pub all : (k : ℕ) → HasUseOf v k → (u : LockUse) × (IsIn u listed × (u.lock ≡ k))

-- the copy has a use of lock k
abbrev pub IsMarked : VersionCopy → ℕ → Type 0
IsMarked copy k = bit_at (slice_index copy.used (k / 64)) (k % 64) ≡ 1

-- this is what the copy has of a lock
pub record IsCopied (copy : VersionCopy) (u : LockUse) : Type 0 where
  pub version : u.version ≡ slice_index copy.found.items u.lock
  pub wrote : flag u.wrote ≡ bit_at (slice_index copy.written (u.lock / 64)) (u.lock % 64)

-- and of a lock that it has a use of
pub record IsMarkedUse (copy : VersionCopy) (u : LockUse) : Type 0 where
  pub near : u.lock < LOCKS
  pub used : IsMarked copy u.lock
  pub copied : IsCopied copy u

-- and these are all that it has below lock n, by rising lock
pub record ListsBelow (copy : VersionCopy) (n : ℕ) (listed : List LockUse) : Type 0 where
  pub rising : AreRising listed
  pub each : (u : LockUse) → IsIn u listed → IsMarkedUse copy u
  pub below : (u : LockUse) → IsIn u listed → u.lock < n
  pub all : (k : ℕ) → k < n → IsMarked copy k → (u : LockUse) × (IsIn u listed × (u.lock ≡ k))
