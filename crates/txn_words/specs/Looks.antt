-- What a call that only reads has seen.
use Rattle.std.specs.Prelude.{◌≡◌, ℕ, List}
use Rattle.history_model.specs.Traces.{Trace, after, Begins}
use Rattle.history_model.specs.Fitting.{Fits}
use Rattle.txn_words.specs.Frames.{AppendsOnly, AppendsReads}

-- from the old trace to the new one words were read alone; of each, IsSeen holds in the state, and P holds of the state
pub record Looks (n : ℕ) (G : List ℕ → Type 0) (t u : Trace) (IsSeen : List ℕ → ℕ → Type 0)
    (P : List ℕ → Type 0) : Type 0 where
  pub begins : Begins t u
  pub same : (s : List ℕ) → Fits n G u s → after u s ≡ after t s
  pub writes : AppendsOnly t u (λ a. ⊥)
  pub reads : (s : List ℕ) → Fits n G u s → AppendsReads t u (IsSeen (after t s))
  pub holds : (s : List ℕ) → Fits n G u s → P (after u s)
