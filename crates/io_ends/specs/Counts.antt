-- What an object counts of itself: its faults, and the calls that were made of it.
use Rattle.std.specs.Prelude.{◌≡◌, ℕ, ◌+◌, ◌<◌, ◌⊎◌, min, Result, OnErr}
use Rattle.io_ends.specs.declared.counts.TheConstants.{LAST_COUNT}

-- one more, but no more than the last value of the count's type, where it stands still
abbrev pub next_count : ℕ → ℕ
next_count n = min (n + 1) LAST_COUNT

-- the count rose, or stands at its last value, where it counts as risen
abbrev pub Rose : ℕ → ℕ → Type 0
Rose before now = (before < now) ⊎ (now ≡ LAST_COUNT)

-- a call failed only if its object's count of faults rose in it
abbrev pub HasCause : {A E : Type 0} → Result A E → ℕ → ℕ → Type 0
HasCause result before now = OnErr result (Rose before now)
