-- A cell's words, read and put in one by one.
use Rattle.txn_cells.proofs.Common.{◌≡◌, ℕ, ◌+◌, ◌*◌, ◌<◌, ◌≤◌, List, [], ◌∷◌, ◌++◌, Some, length, take, get_or, slice_get, slice_set, sym, ap, ◌∙◌, subst}
use Rattle.txn_cells.proofs.Common.{arith, get_or-set_same, length-set, get_or_from_slice_get, Trace, after, Begins, Fits, InEach, Leads, length-after}
use Rattle.txn_cells.proofs.Common.{fits_begins, Looks, AreCells, cell_words, HasWords, PutsWords}
use Rattle.txn_words.proofs.Common.{EndsWithWrite}
use Rattle.std.proofs.lemmas.List.{take-set}
use Rattle.history_model.specs.declared.event.Event.TheVariants.{Read}
use Rattle.txn_words.proofs.Looks.{looks_read, looks_map}
use Rattle.txn_words.proofs.Steps.{after_write_end, fits_write_end}
use Rattle.txn_cells.specs.declared.coded.Coded.{Ghosts as Codes}
use Rattle.txn_cells.proofs.Windows.{has_more, puts_more, window_is}
use Rattle.txn_cells.proofs.Values.{cell_within}

module _ (n : ℕ) (G : List ℕ → Type 0) (t : Trace) (place k : ℕ) where
  -- one word more was read
  pub more_read : {IsSeen : ℕ → Type 0} (u v : Trace) (words : List ℕ) (a x : ℕ) → k < length words → a ≡ place + k → IsSeen a → v ≡ u ++ Read a x ∷ []
      → Looks n G t u (λ _. IsSeen) (HasWords place (take k words)) → Looks n G t v (λ _. IsSeen) (HasWords place (take (k + 1) (slice_set words k x)))
  more_read {IsSeen} u v words a x below is seen read look =
      looks_map n G t (λ _. IsSeen) v (λ s. HasWords place (take k words) s × (slice_get s a ≡ Some x)) (HasWords place (take (k + 1) (slice_set words k x)))
      (λ s h. has_more place k (slice_set words k x) s (omega (arith, below, length-set words k x))
      (subst (λ w. HasWords place w s) (sym (take-set words k x)) h.0)
      (ap (λ b. get_or s b 0) (sym is) ∙ get_or_from_slice_get s a x 0 h.1 ∙ sym (get_or-set_same words k x 0 below)))
      (looks_read n G t (λ _. IsSeen) u v a x (HasWords place (take k words)) look read (λ s h. seen))

  -- one word more was put in
  pub more_put : (u v : Trace) (words : List ℕ) (a x : ℕ) → k < length words → place + length words ≤ n → a ≡ place + k
      → x ≡ get_or words k 0 → EndsWithWrite u v a x → Begins t u
      → Leads n G t u (PutsWords place (take k words)) → Leads n G t v (PutsWords place (take (k + 1) words))
  more_put u v words a x below within is value ends begins puts = record {
    at = λ s fit.
        let fit_u : Fits n G u s = fits_write_end n G u v a x s ends fit in
        let long : length (after t s) ≡ n = length-after t s ∙ fit.count in
        let last : after v s ≡ slice_set (after u s) (place + k) (get_or words k 0) = after_write_end u v a x s ends
        ∙ ap (λ b. slice_set (after u s) b x) is ∙ ap (slice_set (after u s) (place + k)) value in
        subst (PutsWords place (take (k + 1) words) (after t s)) (sym last)
        (puts_more place k words (after t s) (after u s) below (omega (arith, within, long)) (puts.at s fit_u));
  }

module _ (n : ℕ) (G : List ℕ → Type 0) (t : Trace) where
  module _ {T : Type 0} (code : Codes T) (count : (x : T) → code.is_value x → length (code.words x) ≡ code.WORDS)
      (one : (x y : T) → code.is_value x → code.is_value y → code.words x ≡ code.words y → x ≡ y) (at len : ℕ) where
    -- all words of a cell were read
    pub cell_read : {IsSeen : ℕ → Type 0} (u : Trace) (i place : ℕ) (words : List ℕ) → 1 ≤ code.WORDS
        → InEach n G t (AreCells code at len) → i < len → place ≡ at + i * code.WORDS → length (take code.WORDS words) ≡ code.WORDS
        → Looks n G t u (λ _. IsSeen) (HasWords place (take code.WORDS words))
        → Looks n G t u (λ _. IsSeen) (λ s. cell_words code at i s ≡ take code.WORDS words)
    cell_read u i place words some cells below is long look = record {
      begins = look.begins;
      same = look.same;
      writes = look.writes;
      reads = look.reads;
      holds = λ s fit.
          let there : AreCells code at len (after u s) =
          subst (AreCells code at len) (sym (look.same s fit)) (cells.at s (fits_begins n G t u s look.begins fit)) in
          window_is code.WORDS (at + i * code.WORDS) (after u s) (take code.WORDS words) (cell_within code count one at len some (after u s) there i below) long
          (subst (λ p. HasWords p (take code.WORDS words) (after u s)) is (look.holds s fit));
    }
