-- One pass changes among those of a worker.
use Rattle.worker_pool.proofs.Common.{◌≡◌, ℕ, ◌<◌, List, set, length, get_or, sym, ◌∙◌, subst, arith, dite, ℕ_discrete, Stealer, Pass, view, SamePass, Deal}
use Rattle.worker_pool.proofs.Common.{AreAtEach, length-set, get_or-set_other, get_or-set_same}
use Rattle.worker_pool.specs.Inner.Ends.{IsPassAt}

module _ {A P : Type 0} where
  pub still_at : (s : Stealer ℕ A Deal P) (p q : Pass ℕ Deal A) → IsPassAt s p → SamePass p q
      → (view q).parts ≡ (view p).parts → (view q).dealt ≡ (view p).dealt → IsPassAt s q
  still_at s p q h same parts dealt = record {
    deque = (same.0 ∙ h.deque.0, same.1 ∙ h.deque.1, same.3, same.4);
    part = parts ∙ h.part;
    dealt = dealt ∙ h.dealt;
    fifo = h.fifo;
  }

  pub fits_set : (stealers : List (Stealer ℕ A Deal P)) (ps : List (Pass ℕ Deal A)) (k : ℕ) (q : Pass ℕ Deal A) → AreAtEach stealers ps → k < length stealers
      → ((s : Stealer ℕ A Deal P) → IsPassAt (get_or stealers k s) q) → AreAtEach stealers (set ps k q)
  fits_set stealers ps k q h lt at = record {
    count = length-set ps k q ∙ h.count;
    each = λ j s p less. dite (ℕ_discrete j k)
        (λ e. subst (λ (i : ℕ). IsPassAt (get_or stealers i s) (get_or (set ps k q) i p)) (sym e)
        (subst (λ (x : Pass ℕ Deal A). IsPassAt (get_or stealers k s) x) (sym (get_or-set_same ps k q p (omega (arith, h.count, lt)))) (at s)))
        (λ n. subst (λ (x : Pass ℕ Deal A). IsPassAt (get_or stealers j s) x) (sym (get_or-set_other ps k j q p n)) (h.each j s p less));
  }

module _ {A P : Type 0} where
  pub fits_after : (stealers : List (Stealer ℕ A Deal P)) (ps : List (Pass ℕ Deal A)) (k : ℕ) (p q : Pass ℕ Deal A)
      → AreAtEach stealers ps → k < length stealers → p ≡ get_or ps k p
      → SamePass p q → (view q).parts ≡ (view p).parts → (view q).dealt ≡ (view p).dealt → AreAtEach stealers (set ps k q)
  fits_after stealers ps k p q h lt is same parts dealt =
      fits_set stealers ps k q h lt (λ s.
      still_at (get_or stealers k s) p q (subst (λ (r : Pass ℕ Deal A). IsPassAt (get_or stealers k s) r) (sym is) (h.each k s p lt)) same parts dealt)
