-- One caller's addition to a cell, and both of a round.
use Rattle.txn_cells.proofs.Common.{◌≡◌, ℕ, ◌+◌, ◌-◌, ◌%◌, ◌^◌, List, [], ◌∷◌, Some, slice_get, slice_index, slice_set, true, refl, sym, ap, ◌∙◌, subst}
use Rattle.txn_cells.proofs.Common.{get_or_from_slice_get, Begins, Fits, InEachState, LeadsTo, leads_then, CELLS, Get, Set, AddsInRound, added_by}
use Rattle.txn_cells.proofs.Common.{added_to, first_cell, second_cell, AreCells, AreCellValues, DoesTyped}
use Rattle.history_model.specs.declared.shape.Shape.{Ghosts as Shapes}
use Rattle.history_model.specs.Traces.{after}
use Rattle.txn_words.specs.declared.words.Words.{Ghosts as AnyWords}
use Rattle.txn_words.proofs.CallLaws.{leads_from_start}
use Rattle.txn_cells.specs.declared.coded.Coded.{Ghosts as Codes}
use Rattle.txn_cells.specs.Typed.{IsLegalTyped, after_typed}
use Rattle.txn_cells.specs.Inner.Adding.{AddsTo}
use Rattle.txn_cells.proofs.Arrays.{does_next}

module _ {W S O : Type 0} (words : AnyWords W S O) (shapes : Shapes S) (code : Codes ℕ) (at len : ℕ) where
  -- a value that was got, and one that was set from it
  pub got_and_set : (u v w : W) (i x amount y : ℕ) → words.shape v ≡ words.shape u → Begins (words.trace v) (words.trace w) → y ≡ (x + amount) % 2 ^ 128
      → LeadsTo words shapes u v (DoesTyped code at len (Get i x ∷ [])) → LeadsTo words shapes v w (DoesTyped code at len (Set i y ∷ []))
      → LeadsTo words shapes u w (AddsTo code at len i amount)
  unfolding IsLegalTyped after_typed
  got_and_set u v w i x amount y shape begins is first second = record {
    at = λ s fit.
        let does : DoesTyped code at len (Get i x ∷ Set i y ∷ []) (after (words.trace u) s) (after (words.trace w) s) =
        (does_next words shapes code at len u v w (Get i x ∷ []) (Set i y ∷ []) shape begins first second).at s fit in
        record {
          each = λ values are.
              let t : ((slice_get values i ≡ Some x) × Unit {0})
              × AreCellValues code at len (after (words.trace w) s) (slice_set values i y) = does.each values are in
              let found : slice_index values i ≡ x = get_or_from_slice_get values i x 0 t.0.0 in
              let sum : y ≡ (slice_index values i + amount) % 2 ^ 128 = is ∙ ap (λ n. (n + amount) % 2 ^ 128) (sym found) in
              subst (λ n. AreCellValues code at len (after (words.trace w) s) (slice_set values i n)) sum t.1;
        };
  }

  -- both additions of a round
  pub round_adds : (u v w : W) (caller round p q a : ℕ) → at ≡ 0 → len ≡ CELLS → p ≡ first_cell caller round → q ≡ second_cell caller round → a ≡ 2 ^ 64 - 1
      → words.trace u ≡ [] → words.shape v ≡ words.shape u → Begins (words.trace v) (words.trace w)
      → LeadsTo words shapes u v (AddsTo code at len p a) → LeadsTo words shapes v w (AddsTo code at len q 1)
      → (s : List ℕ) → Fits (shapes.word_count (words.shape u)) (shapes.good (words.shape u)) (words.trace w) s
      → AddsInRound code caller round s true (after (words.trace w) s)
  round_adds u v w caller round p q a first_word all first second great fresh shape begins one other s fit =
      let t : List ℕ = after (words.trace w) s in
      let both : (y : List ℕ) × AddsTo code at len p a s y × AddsTo code at len q 1 y t =
      leads_from_start words shapes u w (λ x z. (y : List ℕ) × AddsTo code at len p a x y × AddsTo code at len q 1 y z) fresh
      (leads_then words shapes u v w (AddsTo code at len p a) (AddsTo code at len q 1) shape begins one other) s fit in
      let done : (values : List ℕ) → AreCellValues code at len s values → AreCellValues code at len t (added_to q 1 (added_to p a values)) =
      λ values are. both.2.each (added_to p a values) (both.1.each values are) in
      record {
        keeps = refl;
        adds = λ values are.
            let now : AreCellValues code at len s values =
            subst (λ z. AreCellValues code z len s values) (sym first_word) (subst (λ n. AreCellValues code 0 n s values) (sym all) are) in
            let places : added_to q 1 (added_to p a values) ≡ added_by caller round values =
            ap (λ z. added_to z 1 (added_to p a values)) second ∙ (ap (λ z. added_to (second_cell caller round) 1 (added_to z a values)) first
            ∙ ap (λ z. added_to (second_cell caller round) 1 (added_to (first_cell caller round) z values)) great) in
            subst (AreCellValues code 0 CELLS t) places
            (subst (λ n. AreCellValues code 0 n t (added_to q 1 (added_to p a values))) all
            (subst (λ z. AreCellValues code z len t (added_to q 1 (added_to p a values))) first_word (done values now)));
      }

  -- a job begins with the cells
  pub cells_at_first : (w : W) → words.trace w ≡ [] → ((s : List ℕ) → shapes.good (words.shape w) s → AreCells code at len s)
      → InEachState words shapes w (AreCells code at len)
  unfolding after
  cells_at_first w fresh good = record { at = λ s fit. subst (λ t. AreCells code at len (after t s)) (sym fresh) (good s fit.good) }
