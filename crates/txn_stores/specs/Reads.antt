-- Reads, one after another.
use Rattle.std.specs.Prelude.{ℕ, [], ◌∷◌, ◌++◌, Option, None, Some}
use Rattle.history_model.specs.declared.event.Event.TheVariants.{Read}
use Rattle.history_model.specs.Traces.{Trace}

-- those before the last, and the last
abbrev pub reads_until : {S : Type 0} → (S → Trace) → Option (S × ℕ × ℕ) → Trace
reads_until before None = []
reads_until before (Some last) = before last.0 ++ Read last.1 last.2 ∷ []
