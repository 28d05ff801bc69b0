-- The last order number, as it is read and written.
use Rattle.order_match.proofs.Common.{◌≡◌, ℕ, ◌<◌, ◌++◌, ◌∷◌, [], List, length, slice_get, Some, refl, sym, ap, subst, ◌∙◌, arith, same_Some, Trace, Changes}
use Rattle.order_match.proofs.Common.{Tells, KeepsOthers, EndsWithWrite, OrderShape, LAST_AT, HasParts, HasSomeParts, with_last}
use Rattle.txn_stores.proofs.Common.{after}
use Rattle.txn_words.proofs.Common.{SomeFits, InEach, Leads, length-after}
use Rattle.txn_alloc.proofs.Common.{get_set_same, only_write}
use Rattle.history_model.specs.declared.event.Event.TheVariants.{Read}
use Rattle.history_model.proofs.Traces.FittingLaws.{Found, found}
use Rattle.txn_words.proofs.FrameLaws.{only_keeps}
use Rattle.txn_words.proofs.JobLaws.{was_put}
use Rattle.order_match.proofs.Changes.{last_change_stands}

-- what is read behind a call that left the words as they were is told of those from before it
pub told_behind : {last : ℕ} (shape : OrderShape) (x y z : List ℕ) → y ≡ x → Tells (HasParts shape) (λ held. held.last) last y z
    → Tells (HasParts shape) (λ held. held.last) last x z
told_behind {last = last} shape x y z same told = subst (λ (l : List ℕ). Tells (HasParts shape) (λ held. held.last) last l z) same told

module _ (shape : OrderShape) (n : ℕ) (G : List ℕ → Type 0) (t : Trace) where
  -- it is a word
  pub last_within : InEach n G t (HasSomeParts shape) → SomeFits n G t → LAST_AT < n
  last_within each some =
      let parts = (each.at some.0 some.1).1 in
      let long : length (after t some.0) ≡ n = length-after t some.0 ∙ some.1.count in
      omega (arith, long, parts.free_lists.laid_out.heads)

  module _ (u : Trace) where
    pub last_read : (v : ℕ) → u ≡ t ++ Read LAST_AT v ∷ [] → Leads n G t u (Tells (HasParts shape) (λ held. held.last) v)
    last_read v read = record {
      at = λ s fit.
          let f : Found n G t u LAST_AT v s = found n G t u LAST_AT v read s fit in
          record { same = f.same; told = λ held parts. same_Some v held.last (sym f.there ∙ parts.last) };
    }

    pub last_written : (v : ℕ) → EndsWithWrite t u LAST_AT v → Leads n G t u (Changes (HasParts shape) (with_last v))
    last_written v write = record {
      at = λ s fit held parts.
          let kept : KeepsOthers (λ a. a ≡ LAST_AT) (after t s) (after u s) =
          only_keeps (λ a. a ≡ LAST_AT) t u s (only_write (λ a. a ≡ LAST_AT) t u LAST_AT v write refl) in
          let there : slice_get (after u s) LAST_AT ≡ Some v =
          ap (λ z. slice_get z LAST_AT) (was_put t u LAST_AT v s (after t s) refl write)
          ∙ get_set_same (after t s) LAST_AT v (omega (arith, parts.free_lists.laid_out.heads)) in
          last_change_stands shape (after t s) (after u s) held v parts there kept;
    }
