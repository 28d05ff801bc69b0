-- The statements of the crate's laws.
use Rattle.std.specs.Prelude.{◌≡◌, ℕ, List}
use Rattle.history_model.specs.declared.shape.Shape.{Ghosts as Shapes}
use Rattle.history_model.specs.Traces.{Trace, after}
use Rattle.history_model.specs.Fitting.{Fits}
use Rattle.txn_cells.specs.declared.coded.Coded.{Ghosts as Codes}
use Rattle.txn_cells.specs.declared.limits.TheConstants.{CELLS, MOST_ROUNDS, MOST_WORDS, MOST_WORDS_OF_A_CELL}
use Rattle.txn_cells.specs.Cells.{AreCellValues}
use Rattle.txn_cells.specs.Typed.{TypedTrace, IsLegalTyped, after_typed, AreCalls, trace_after, typed_of}

-- the limits in digits
pub record LimitsInDigits : Type 0 where
  pub words : MOST_WORDS ≡ 1048576
  pub of_a_cell : MOST_WORDS_OF_A_CELL ≡ 8
  pub cells : CELLS ≡ 8
  pub rounds : MOST_ROUNDS ≡ 10000

module _ {T S : Type 0} (code : Codes T) (shapes : Shapes S) where
  -- words have one list of values at most
  abbrev pub OneList : Type 0
  OneList = (at len : ℕ) (s : List ℕ) (xs ys : List T) → AreCellValues code at len s xs → AreCellValues code at len s ys
      → xs ≡ ys

  -- calls of cells, one after another from a trace on: on whatever good list the whole trace is legal, the typed events of
  -- all of them are legal on the values that the cells had, and lead to those that they have
  abbrev pub CallsAreTyped : S → Type 0
  CallsAreTyped shape =
      (at len : ℕ) (old : Trace) (calls : List (Trace × TypedTrace T))
      → AreCalls code at len (shapes.word_count shape) (shapes.good shape) old calls
      → (s : List ℕ) → Fits (shapes.word_count shape) (shapes.good shape) (trace_after old calls) s
      → (values : List T) → AreCellValues code at len (after old s) values
      → IsLegalTyped (typed_of calls) values
      × AreCellValues code at len (after (trace_after old calls) s) (after_typed (typed_of calls) values)
