-- Going back to a mark: what it leaves of the words.
use Rattle.std.specs.Prelude.{◌≡◌, ℕ, ◌<◌, List, ◌++◌, slice_get, Some}
use Rattle.history_model.specs.Traces.{Trace, after, IsLegalTrace}
use Rattle.history_model.specs.Fitting.{Fits}
use Rattle.history_model.specs.Undoing.{notes_of}
use Rattle.history_model.specs.Marks.{count_writes}
use Rattle.txn_words.specs.Steps.{EndsWithWrite}

-- all writes but the first so many are taken back: on every good list on which the old trace is legal so is the new one, and it
-- leaves what each front of the old one with exactly so many writes leaves
pub record TakesBack (word_count : ℕ) (is_good : List ℕ → Type 0) (writes : ℕ) (old new : Trace) : Type 0 where
  pub legal : (s : List ℕ) → Fits word_count is_good old s → IsLegalTrace new s
  pub left : (s : List ℕ) → Fits word_count is_good old s → (front rest : Trace) → old ≡ front ++ rest
      → count_writes front ≡ writes → after new s ≡ after front s

-- the write at this place, counted from 0, is taken back: the value is written that was noted of it
pub record PutsBack (word_count : ℕ) (is_good : List ℕ → Type 0) (place : ℕ) (old new : Trace) : Type 0 where
  pub a : ℕ
  pub was : ℕ
  pub within : a < word_count
  pub note : (s : List ℕ) → Fits word_count is_good old s → slice_get (notes_of old s) place ≡ Some (a, was)
  pub ends : EndsWithWrite old new a was
