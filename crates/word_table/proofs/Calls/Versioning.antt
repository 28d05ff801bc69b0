-- What a call finds of versions and pays: its first use of a lock, and the next version if that is owed.
use Rattle.word_table.proofs.Common.{◌≡◌, ℕ, inl, inr, List, sym, ap, ◌∙◌, View, has, FindsVersion, locks_found}
use Rattle.word_table.specs.Versions.{HasUseOf}
use Rattle.word_table.proofs.Copied.VersionCopies.{this_found}

module _ (sound : List ℕ → List View → Type 0) (k : ℕ) (old new : View) where
  -- all but the uses is the same
  pub finds_view : FindsVersion sound k old new → new ≡ record old { uses = new.uses }
  finds_view (inl h) = h.1 ∙ ap (λ (u : View). record old { uses = u.uses }) (sym h.1)
  finds_view (inr t) = t.1.1.view ∙ ap (λ (u : View). record old { uses = u.uses }) (sym t.1.1.view)

  -- the lock has a use then
  pub finds_used : FindsVersion sound k old new → HasUseOf new k
  finds_used (inl h) = ap (λ (u : View). has k (locks_found u.uses)) h.1 ∙ h.0
  finds_used (inr t) = ap (λ (u : View). has k (locks_found u.uses)) t.1.1.view ∙ this_found old.uses k t.1.0
