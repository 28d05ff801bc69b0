-- Typed events: which lists of values they are legal on, what they leave, and how calls on words do them.
use Rattle.std.specs.Prelude.{◌≡◌, ℕ, List, [], ◌∷◌, ◌++◌, Some, slice_get, slice_set}
use Rattle.history_model.specs.Traces.{Trace, Begins}
use Rattle.history_model.specs.Fitting.{Leads}
use Rattle.txn_cells.specs.declared.coded.Coded.{Ghosts as Codes}
use Rattle.txn_cells.specs.declared.typed.TypedEvent.{TypedEvent}
use Rattle.txn_cells.specs.declared.typed.TypedEvent.TheVariants.{Get, Set}
use Rattle.txn_cells.specs.Cells.{AreCellValues}

-- what transactions did to cells, oldest event first
abbrev pub TypedTrace : Type 0 → Type 0
TypedTrace T = List (TypedEvent T)

-- the values with the events' sets put in, in order
unfoldable pub after_typed : {T : Type 0} → TypedTrace T → List T → List T
after_typed [] values = values
after_typed (Get i x ∷ typed) values = after_typed typed values
after_typed (Set i x ∷ typed) values = after_typed typed (slice_set values i x)

-- each Get finds its value in the values as the events before it leave them
unfoldable pub IsLegalTyped : {T : Type 0} → TypedTrace T → List T → Type 0
IsLegalTyped [] values = Unit {0}
IsLegalTyped (Get i x ∷ typed) values = (slice_get values i ≡ Some x) × IsLegalTyped typed values
IsLegalTyped (Set i x ∷ typed) values = IsLegalTyped typed (slice_set values i x)

module _ {T : Type 0} (code : Codes T) (at len : ℕ) where
  -- from words to words the cells' values go as the typed events say
  pub record DoesTyped (typed : TypedTrace T) (old new : List ℕ) : Type 0 where
    pub each : (values : List T) → AreCellValues code at len old values
        → IsLegalTyped typed values × AreCellValues code at len new (after_typed typed values)

  module _ (word_count : ℕ) (is_good : List ℕ → Type 0) where
    -- from the old trace on, calls made these typed events, each with the trace as it left it
    unfoldable pub AreCalls : Trace → List (Trace × TypedTrace T) → Type 0
    AreCalls old [] = Unit {0}
    AreCalls old (call ∷ calls) =
        Begins old call.0 × Leads word_count is_good old call.0 (DoesTyped call.1) × AreCalls call.0 calls

-- the trace as the last call left it
unfoldable pub trace_after : {T : Type 0} → Trace → List (Trace × TypedTrace T) → Trace
trace_after old [] = old
trace_after old (call ∷ calls) = trace_after call.0 calls

-- the typed events of all calls, in order
unfoldable pub typed_of : {T : Type 0} → List (Trace × TypedTrace T) → TypedTrace T
typed_of [] = []
typed_of (call ∷ calls) = call.1 ++ typed_of calls
