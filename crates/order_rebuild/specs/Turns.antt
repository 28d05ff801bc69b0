-- Where an item stands in the line of each lock that it used, and in the line of its caller.
use Rattle.std.specs.Prelude.{◌≡◌, ◌↔◌, ◌⊎◌, ℕ, ◌+◌, ◌*◌, ◌<◌, ◌≤◌, Bool, true, List, slice_get, Some}
use Rattle.history_model.specs.declared.item.LockUse.{LockUse}
use Rattle.history_model.specs.Sets.{flag}
use Rattle.order_rebuild.specs.declared.turn.TheConstants.{LINE}
use Rattle.history_model.specs.declared.placed.Spot.{Spot}
use Rattle.order_rebuild.specs.declared.turn.Turn.{Turn}

-- of two uses of one lock that which has the lower key comes before the other
abbrev pub use_key : LockUse → ℕ
use_key u = u.version * 2 + flag u.wrote

-- each use is of a greater lock than those before it
abbrev pub IsRising : List LockUse → Type 0
IsRising us = (i j : ℕ) (u v : LockUse) → slice_get us i ≡ Some u → slice_get us j ≡ Some v → i < j → u.lock < v.lock

-- some use of lock k has this key
abbrev pub HasKey : List LockUse → ℕ → ℕ → Type 0
HasKey us k key = (i : ℕ) × (u : LockUse) × (slice_get us i ≡ Some u) × (u.lock ≡ k) × (use_key u ≡ key)

-- and none has a lower one
pub record IsLeastKey (us : List LockUse) (k low : ℕ) : Type 0 where
  pub has : HasKey us k low
  pub least : (i : ℕ) (u : LockUse) → slice_get us i ≡ Some u → u.lock ≡ k → low ≤ use_key u

-- some use of lock k has a greater key
abbrev pub HasAbove : List LockUse → ℕ → ℕ → Type 0
HasAbove us k low = (i : ℕ) × (u : LockUse) × (slice_get us i ≡ Some u) × (u.lock ≡ k) × (low < use_key u)

-- where an item with these uses stands in the line of lock k
pub record IsLockCode (us : List LockUse) (k code : ℕ) : Type 0 where
  pub low : ℕ
  pub wide : Bool
  pub least : IsLeastKey us k low
  pub above : (wide ≡ true) ↔ HasAbove us k low
  pub is : code ≡ (2 * k) * LINE + (2 * low + flag wide)
  pub fits : 2 * low + flag wide < LINE

-- where a caller's item stands in the caller's line
abbrev pub line_place : ℕ → ℕ → ℕ
line_place caller index = (2 * caller + 1) * LINE + index

-- the item at p stands there in one of its lines
abbrev pub IsTurnOf : List Spot → ℕ → ℕ → Type 0
IsTurnOf list p code = (s : Spot) × (slice_get list p ≡ Some s)
    × (((k : ℕ) × IsLockCode s.uses k code) ⊎ ((code ≡ line_place s.caller s.index) × (s.index < LINE)))

-- the item p stands there, by the turns
abbrev pub HasTurn : List Turn → ℕ → ℕ → Type 0
HasTurn turns p code = (i : ℕ) × (slice_get turns i ≡ Some (record { code = code; item = p }))

-- these are the turns of the items below n, in any order
pub record AreTurns (list : List Spot) (n : ℕ) (turns : List Turn) : Type 0 where
  pub sound : (i : ℕ) (t : Turn) → slice_get turns i ≡ Some t → (t.item < n) × IsTurnOf list t.item t.code
  pub of_uses : (p : ℕ) (s : Spot) (j : ℕ) (u : LockUse) → p < n → slice_get list p ≡ Some s
      → slice_get s.uses j ≡ Some u → (code : ℕ) × IsLockCode s.uses u.lock code × HasTurn turns p code
  pub of_caller : (p : ℕ) (s : Spot) → p < n → slice_get list p ≡ Some s
      → (s.index < LINE) × HasTurn turns p (line_place s.caller s.index)

-- the turns gain those of the first n uses of the item p
pub record GainTurns (us : List LockUse) (p n : ℕ) (old new : List Turn) : Type 0 where
  pub kept : (i : ℕ) (t : Turn) → slice_get old i ≡ Some t → slice_get new i ≡ Some t
  pub sound : (i : ℕ) (t : Turn) → slice_get new i ≡ Some t
      → (slice_get old i ≡ Some t) ⊎ ((t.item ≡ p) × ((k : ℕ) × IsLockCode us k t.code))
  pub whole : (j : ℕ) (u : LockUse) → j < n → slice_get us j ≡ Some u
      → (code : ℕ) × IsLockCode us u.lock code × HasTurn new p code
