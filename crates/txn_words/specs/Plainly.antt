-- Words in a plain list, as clauses see them.
use Rattle.std.specs.Prelude.{◌≡◌, ◌≢◌, ◌<◌, ℕ, List, Option, Some, All}
use Rattle.history_model.specs.Traces.{Trace, after}
use Rattle.history_model.specs.Fitting.{Fits}
use Rattle.history_model.specs.Undoing.{Notes, notes_of}
use Rattle.txn_words.specs.declared.words.Stop.{Stop}
use Rattle.txn_words.specs.declared.words.Stop.TheVariants.{Yield}

-- the shape, the list that it was made from, what was done since, and the stop
pub record PlainView (S : Type 0) : Type 0 where
  pub shape : S
  pub origin : List ℕ
  pub trace : Trace
  pub stop : Option Stop

-- the trace is legal on the good list that it began from, the words are what it leaves of that list, and the notes are
-- those of its writes, on whatever good list it is legal
pub record Follows (word_count : ℕ) (is_good : List ℕ → Type 0) (origin : List ℕ) (trace : Trace) (notes : Notes)
    (words : List ℕ) : Type 0 where
  pub fits : Fits word_count is_good trace origin
  pub same : words ≡ after trace origin
  pub noted : (s : List ℕ) → Fits word_count is_good trace s → notes ≡ notes_of trace s
  pub within : All (λ note. note.0 < word_count) notes

-- the list that it was made from fits its trace, and it has given way to nobody
pub record IsSoundPlain {S : Type 0} (word_count : ℕ) (is_good : List ℕ → Type 0) (plain : PlainView S) : Type 0 where
  pub fits : Fits word_count is_good plain.trace plain.origin
  pub no_yield : plain.stop ≢ Some Yield
