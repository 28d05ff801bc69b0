-- At the start no call was begun and no version was raised, and the values are those that the memory began with.
use Rattle.word_table.proofs.Common.{◌≡◌, ℕ, ◌+◌, List, [], ◌∷◌, Some, slice_index, refl, sym, ap, ◌∙◌, subst, arith, slice_get-get_or, View, calls_word}
use Rattle.word_table.proofs.Common.{commits_word, version_word, value_word, LocksHold, opening_view, ValuesHold, opening_words, numbers}
use Rattle.values_rule.specs.Opening.{IsUnused}
use Rattle.values_rule.proofs.Whole.Opening.{opening_holds}
use Rattle.word_table.proofs.Openings.Zeros.{zeros_at, past_zeros, one_view}

pub opening_values : (good : List ℕ → Type 0) (n : ℕ) (base : List ℕ) → good base
    → LocksHold n base (opening_words n base) (opening_view base n (numbers 0 n) [] ∷ [])
    → ValuesHold good n base (opening_words n base) (opening_view base n (numbers 0 n) [] ∷ [])
opening_values good n base fine h =
    let v : View = opening_view base n (numbers 0 n) [] in
    opening_holds good n base (opening_words n base) (v ∷ []) h fine record {
      serial = zeros_at (value_word n 0) base 0 (omega arith);
      calls = λ j lt. zeros_at (value_word n 0) base (calls_word n j) (omega arith);
      commits = λ j lt. zeros_at (value_word n 0) base (commits_word n j) (omega arith);
      versions = λ k near. zeros_at (value_word n 0) base (version_word n k) (omega arith);
      values = λ a lt. let place : value_word n a ≡ value_word n 0 + a = omega arith in
          slice_get-get_or base a 0 lt
          ∙ ap (λ (x : ℕ). Some x) (sym (ap (λ (i : ℕ). slice_index (opening_words n base) i) place ∙ past_zeros (value_word n 0) base a));
      unused = λ id u known. subst (λ (x : View). IsUnused x) (one_view v id u known).1
          (record { phase = refl; joined = refl; seen = refl; call = refl; undo = refl; uses = refl; owed = refl });
    }
