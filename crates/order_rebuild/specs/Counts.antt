-- Uses counted: how many of a lock, and how many of a key.
use Rattle.std.specs.Prelude.{ℕ, Bool, ◌&&◌, ◌==◌}
use Rattle.history_model.specs.declared.item.LockUse.{LockUse}
use Rattle.order_rebuild.specs.Turns.{use_key}

-- it is a use of lock k; one of this key
abbrev pub is_of : ℕ → LockUse → Bool
is_of k u = u.lock == k

abbrev pub is_at : ℕ → ℕ → LockUse → Bool
is_at k key u = is_of k u && (use_key u == key)
