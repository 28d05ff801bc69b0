-- What the reads and writes of a job tell, one after another, of a list that its trace fits.
-- `was` is what was left of the list before the read or write: the list itself as long as nothing was written.
use Rattle.txn_words.proofs.Common.{◌≡◌, ℕ, ◌<◌, List, [], ◌∷◌, ◌++◌, length, slice_get, slice_set, Some, sym, ap, ◌∙◌, get_or_from_slice_get, slice_get_within}
use Rattle.txn_words.proofs.Common.{Read, Trace, Fits, EndsWithWrite}
use Rattle.std.proofs.Common.{slice_index}
use Rattle.history_model.specs.Traces.{after}
use Rattle.history_model.proofs.Traces.FittingLaws.{Found, found}
use Rattle.txn_words.proofs.Steps.{after_write_end}

-- nothing was done yet
pub nothing_yet : (t : Trace) (s : List ℕ) → t ≡ [] → after t s ≡ s
unfolding after
nothing_yet t s fresh = ap (λ w. after w s) fresh

-- what a read tells: which value the word had, that it is there, and that all is as it was
pub record WasRead (a v : ℕ) (was now : List ℕ) : Type 0 where
  pub value : slice_get was a ≡ Some v
  pub word : slice_index was a ≡ v
  pub there : a < length was
  pub same : now ≡ was

module _ (n : ℕ) (G : List ℕ → Type 0) (t u : Trace) (a v : ℕ) (s : List ℕ) where
  pub was_read : (was : List ℕ) → after t s ≡ was → u ≡ t ++ Read a v ∷ [] → Fits n G u s → WasRead a v was (after u s)
  was_read was left read fit =
      let f : Found n G t u a v s = found n G t u a v read s fit in
      let value : slice_get was a ≡ Some v = ap (λ w. slice_get w a) (sym left) ∙ f.there in
      record {
        value = value;
        word = get_or_from_slice_get was a v 0 value;
        there = slice_get_within was a v value;
        same = f.same ∙ left;
      }

  -- what fits the trace with it fitted it before
  pub fits_read : u ≡ t ++ Read a v ∷ [] → Fits n G u s → Fits n G t s
  fits_read read fit = (found n G t u a v read s fit).fits

-- what a write leaves
pub was_put : (t u : Trace) (a v : ℕ) (s was : List ℕ) → after t s ≡ was → EndsWithWrite t u a v → after u s ≡ slice_set was a v
was_put t u a v s was left ends = after_write_end t u a v s ends ∙ ap (λ w. slice_set w a v) left
