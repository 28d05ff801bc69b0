-- What is known of cells' values, as words are read and put in.
use Rattle.txn_cells.proofs.Common.{◌≡◌, ◌≢◌, ◌⊎◌, inl, inr, ℕ, ◌+◌, ◌*◌, ◌<◌, ◌≤◌, List, Some, length, take, drop, slice_get, slice_set, sym, ap, ◌∙◌, subst}
use Rattle.txn_cells.proofs.Common.{arith, length-set, slice_get_within, AreCellValues, AreCells, cell_words, PutsWords}
use Rattle.values_rule.proofs.Common.{same_list}
use Rattle.std.proofs.lemmas.Bool.{cases_order}
use Rattle.std.proofs.lemmas.Option.{slice_get_cases}
use Rattle.txn_cells.specs.declared.coded.Coded.{Ghosts as Codes}
use Rattle.txn_cells.proofs.Windows.{window_within, window_stays, window_is, cells_apart, get_set_cases}

module _ {T : Type 0} (code : Codes T) (count : (x : T) → code.is_value x → length (code.words x) ≡ code.WORDS)
    (one : (x y : T) → code.is_value x → code.is_value y → code.words x ≡ code.words y → x ≡ y) (at len : ℕ) where
  -- the value at a place
  pub value_at : (s : List ℕ) (values : List T) → AreCellValues code at len s values → (i : ℕ) → i < len
      → (x : T) × (slice_get values i ≡ Some x) × code.is_value x × (cell_words code at i s ≡ code.words x)
  value_at s values v i below = elim ((slice_get_cases values i).1) [
    | inl there ↦ (there.0, there.2, (v.each i there.0 there.2).0, (v.each i there.0 there.2).1)
    | inr past ↦ absurd (omega (arith, past.0, below, v.count))
  ]

  -- a cell whose words these are has this value
  pub value_is : (s : List ℕ) (values : List T) → AreCellValues code at len s values → (i : ℕ) → i < len
      → (x : T) → code.is_value x → cell_words code at i s ≡ code.words x → slice_get values i ≡ Some x
  value_is s values v i below x is words =
      let there : (y : T) × (slice_get values i ≡ Some y) × code.is_value y × (cell_words code at i s ≡ code.words y) = value_at s values v i below in
      there.1 ∙ ap Some (one there.0 x there.2 is (sym there.3 ∙ words))

  -- words have one list of values at most
  pub one_values : (s : List ℕ) (xs ys : List T) → AreCellValues code at len s xs → AreCellValues code at len s ys → xs ≡ ys
  one_values s xs ys v w = same_list xs ys (v.count
      ∙ sym w.count) (λ i x e. value_is s ys w i (omega (arith, slice_get_within xs i x e, v.count)) x (v.each i x e).0 (v.each i x e).1)

  -- a cell lies within the words
  pub cell_within : 1 ≤ code.WORDS → (s : List ℕ) → AreCells code at len s → (i : ℕ) → i < len → at + i * code.WORDS + code.WORDS ≤ length s
  cell_within some s cells i below =
      let there : (x : T) × (slice_get cells.0 i ≡ Some x) × code.is_value x × (cell_words code at i s ≡ code.words x) = value_at s cells.0 cells.1 i below in
      let long : length (take code.WORDS (drop (at + i * code.WORDS) s)) ≡ code.WORDS = ap length there.3 ∙ count there.0 there.2 in
      window_within code.WORDS (at + i * code.WORDS) s some long

  -- if a value's words are put into a cell, the cell has the value, and the others have theirs
  pub values_put : 1 ≤ code.WORDS → (s t : List ℕ) (values : List T) → AreCellValues code at len s values → (i : ℕ) → i < len → (x : T) → code.is_value x
      → PutsWords (at + i * code.WORDS) (code.words x) s t → AreCellValues code at len t (slice_set values i x)
  values_put some s t values v i below x is puts = record {
    count = length-set values i x ∙ v.count;
    each = λ j y e. elim (get_set_cases values i j x y e) [
      | inl same ↦
          let this : cell_words code at i t ≡ code.words x =
          window_is code.WORDS (at + i * code.WORDS) t (code.words x)
          (omega (arith, cell_within some s (values, v) i below, puts.count)) (count x is) puts.stand in (
            subst code.is_value (sym same.1) is,
            ap (λ k. cell_words code at k t) same.0 ∙ this ∙ ap code.words (sym same.1),
          )
      | inr other ↦
          let within : j < len = omega (arith, slice_get_within values j y other.1, v.count) in (
            (v.each j y other.1).0,
            window_stays code.WORDS (at + j * code.WORDS) s t puts.count (cell_within some s (values, v) j within)
                (λ k small. puts.others (at + j * code.WORDS + k) (apart j k other.0 small)) ∙ (v.each j y other.1).1,
          )
    ];
  }
    where
      apart : (j k : ℕ) → j ≢ i → k < code.WORDS → (at + j * code.WORDS + k < at + i * code.WORDS)
          ⊎ (at + i * code.WORDS + length (code.words x) ≤ at + j * code.WORDS + k)
      apart j k not_same small = elim (cases_order i j) [
        | inl same ↦ absurd (not_same (sym same))
        | inr (inl up) ↦ inr (omega (arith, cells_apart code.WORDS i j up, count x is))
        | inr (inr down) ↦ inl (omega (arith, cells_apart code.WORDS j i down, small))
      ]
