-- Which words a call may write, and what it leaves of the others.
-- `WritesOnly` of `Calls` says the first of a call, and `LeadsTo .. (KeepsOthers IsOwn)` the second.
use Rattle.std.specs.Prelude.{◌≡◌, ℕ, List, ◌++◌, length, slice_get, Some}
use Rattle.history_model.specs.declared.event.Event.TheVariants.{Read}
use Rattle.history_model.specs.Traces.{Trace, after, Writes}

-- the new trace is the old one with more events, whose writes are all at words that IsOwn holds of
pub record AppendsOnly (old new : Trace) (IsOwn : ℕ → Type 0) : Type 0 where
  pub more : Trace
  pub whole : new ≡ old ++ more
  pub own : (a : ℕ) → Writes more a → IsOwn a

-- some event of the trace reads the word a
abbrev pub Reads : Trace → ℕ → Type 0
Reads trace a = (i v : ℕ) × (slice_get trace i ≡ Some (Read a v))

-- the new trace is the old one with more events, whose reads are all at words that IsSeen holds of
pub record AppendsReads (old new : Trace) (IsSeen : ℕ → Type 0) : Type 0 where
  pub more : Trace
  pub whole : new ≡ old ++ more
  pub seen : (a : ℕ) → Reads more a → IsSeen a

-- there are as many words as before, and each that IsOwn does not hold of is what it was
pub record KeepsOthers (IsOwn : ℕ → Type 0) (old new : List ℕ) : Type 0 where
  pub count : length new ≡ length old
  pub same : (a : ℕ) → ¬ IsOwn a → slice_get new a ≡ slice_get old a

-- the law of the frame: what the events that a call appended do not write is after the call what it was before
abbrev pub OthersStand : Type 0
OthersStand =
    (old more : Trace) (words : List ℕ)
    → (length (after (old ++ more) words) ≡ length (after old words))
    × ((a : ℕ) → ¬ Writes more a → slice_get (after (old ++ more) words) a ≡ slice_get (after old words) a)
