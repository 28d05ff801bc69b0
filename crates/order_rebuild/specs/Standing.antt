-- A list that stands in its order: by its callers, and by the versions that its uses found.
use Rattle.std.specs.Prelude.{◌≡◌, ℕ, ◌+◌, ◌<◌, ◌≤◌, List, slice_get, slice_index, Some}
use Rattle.history_model.specs.Items.{UsedBefore}
use Rattle.history_model.specs.Sets.{flag}
use Rattle.history_model.specs.declared.item.LockUse.{LockUse}
use Rattle.history_model.specs.declared.placed.Spot.{Spot}

-- y is of a greater caller than x, or of the same one and has a greater index
abbrev pub InTurn : Spot → Spot → Type 0
InTurn x y = (x.caller ≤ y.caller) × (x.caller ≡ y.caller → x.index < y.index)

-- each two of the list are such
abbrev pub AreInTurn : List Spot → Type 0
AreInTurn list = (p q : ℕ) (x y : Spot) → slice_get list p ≡ Some x → slice_get list q ≡ Some y → p < q → InTurn x y

-- no item comes by its uses before one that stands earlier
abbrev pub KeepUses : List Spot → Type 0
KeepUses list = (p q : ℕ) (x y : Spot) → slice_get list p ≡ Some x → slice_get list q ≡ Some y → p < q
    → UsedBefore y.uses x.uses → ⊥

-- the lock's version is no lower than what the use left
abbrev pub IsPast : List ℕ → LockUse → Type 0
IsPast versions u = u.version + flag u.wrote ≤ slice_index versions u.lock
