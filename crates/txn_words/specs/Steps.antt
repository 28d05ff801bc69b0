-- What a call on words does to its trace and its stop.
use Rattle.std.specs.Prelude.{◌≡◌, ◌⊎◌, ℕ, [], ◌∷◌, ◌++◌, Option, Some, None, Result, Ok, Err}
use Rattle.history_model.specs.declared.event.Event.TheVariants.{Read, Write}
use Rattle.history_model.specs.Traces.{Trace}
use Rattle.txn_words.specs.declared.words.Stop.{Stop}

-- the stop after a call that began with none
abbrev pub stop_after : {A : Type 0} → Result A Stop → Option Stop
stop_after (Ok x) = None
stop_after (Err e) = Some e

-- the new trace is the old one with the write at its end, and before it at most one read of the same word
abbrev pub EndsWithWrite : Trace → Trace → ℕ → ℕ → Type 0
EndsWithWrite old new a v = (new ≡ old ++ Write a v ∷ []) ⊎ ((was : ℕ) × (new ≡ old ++ Read a was ∷ Write a v ∷ []))
