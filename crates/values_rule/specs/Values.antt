-- What holds of values between any two steps, for n seats and the words base that the memory began with, if `now` has
-- the newest value of each word: the two parts of the value invariant on notes and on traces.
use Rattle.std.specs.Prelude.{◌≡◌, ◌⊎◌, ℕ, ◌<◌, true, List, [], ◌∷◌, length, Option, Some, None, IsSome, slice_get, slice_index}
use Rattle.std.specs.Prelude.{◌==◌, if◌then◌else◌}
use Rattle.history_model.specs.declared.view.View.{View}
use Rattle.history_model.specs.declared.view.Phase.TheVariants.{Idle, Running, Releasing}
use Rattle.history_model.specs.Counts.{is_attempt}
use Rattle.history_model.specs.Locks.{lock_of_word}
use Rattle.history_model.specs.Table.{Knows, value_word}
use Rattle.history_model.specs.Traces.{IsLegalTrace, Writes, Touches, value_after}
use Rattle.history_model.specs.Undoing.{Notes}
use Rattle.history_model.specs.Views.{HasWriteGrant, IsGranted}

-- the value of the memory's word a, as it stands in the table
abbrev pub table_value : ℕ → List ℕ → ℕ → ℕ
table_value n words a = slice_index words (value_word n a)

-- the value that the oldest note of the word a has: what writing all notes back leaves there
unfoldable pub oldest : ℕ → Notes → Option ℕ
oldest a [] = None
oldest a (note ∷ notes) = if a == note.0 then Some note.1 else oldest a notes

-- the words with all notes written back are `now`: what a note has lies under an exclusive lock, and every other word has
-- its value
pub record UndoRestores (n : ℕ) (base now words : List ℕ) (views : List View) : Type 0 where
  pub noted : (id a o : ℕ) (v : View) → Knows views id v → oldest a v.undo ≡ Some o
      → (a < length base) × HasWriteGrant v (lock_of_word a) × (slice_get now a ≡ Some o)
  pub unnoted : (a : ℕ) → a < length base → ((id : ℕ) (v : View) → Knows views id v → oldest a v.undo ≡ None)
      → slice_get now a ≡ Some (table_value n words a)

-- an attempt's trace lies under its locks and is legal on `now`, and while it runs its words have the values that it knows
pub record TraceCurrent (n : ℕ) (base now words : List ℕ) (views : List View) : Type 0 where
  pub granted : (id a : ℕ) (v : View) → Knows views id v → is_attempt v.phase ≡ true → Touches v.trace a
      → (a < length base) × IsGranted v (lock_of_word a)
  pub legal : (id : ℕ) (v : View) → Knows views id v → is_attempt v.phase ≡ true → IsLegalTrace v.trace now
  pub undo_written : (id a o : ℕ) (v : View) → Knows views id v → is_attempt v.phase ≡ true → oldest a v.undo ≡ Some o
      → Writes v.trace a
  pub written_noted : (id a : ℕ) (v : View) → Knows views id v → v.phase ≡ Running → Writes v.trace a
      → IsSome (oldest a v.undo)
  pub last_stands : (id a x : ℕ) (v : View) → Knows views id v → v.phase ≡ Running → value_after v.trace a None ≡ Some x
      → table_value n words a ≡ x
  pub rested : (id : ℕ) (v : View) → Knows views id v → (v.phase ≡ Idle) ⊎ (v.phase ≡ Releasing) → v.undo ≡ []
