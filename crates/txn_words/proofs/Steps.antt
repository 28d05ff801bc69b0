-- What a write at the end of a trace leaves.
use Rattle.txn_words.proofs.Common.{◌≡◌, ℕ, List, [], ◌∷◌, inl, inr, slice_set, ap, ◌∙◌, subst, Read, Write, Trace, Fits, after-append, fits_front}
use Rattle.txn_words.proofs.Common.{EndsWithWrite}
use Rattle.history_model.specs.Traces.{after}

pub after_write_end : (t u : Trace) (a v : ℕ) (s : List ℕ) → EndsWithWrite t u a v → after u s ≡ slice_set (after t s) a v
unfolding after
after_write_end t u a v s (inl e) = ap (λ w. after w s) e ∙ after-append t (Write a v ∷ []) s
after_write_end t u a v s (inr e) = ap (λ w. after w s) e.1 ∙ after-append t (Read a e.0 ∷ Write a v ∷ []) s

-- what fits the trace with the write fitted it before
pub fits_write_end : (n : ℕ) (G : List ℕ → Type 0) (t u : Trace) (a v : ℕ) (s : List ℕ) → EndsWithWrite t u a v → Fits n G u s → Fits n G t s
fits_write_end n G t u a v s (inl e) h = fits_front n G t _ s (subst (λ w. Fits n G w s) e h)
fits_write_end n G t u a v s (inr e) h = fits_front n G t _ s (subst (λ w. Fits n G w s) e.1 h)
