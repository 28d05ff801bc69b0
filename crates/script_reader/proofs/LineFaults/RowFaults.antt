-- What is wrong with a line of a script, by its form.
use Rattle.script_reader.proofs.Common.{◌≡◌, ℕ, ◌+◌, Bool, true, false, not, ◌&&◌, ◌==◌, cond, List, [], ◌∷◌, drop, filter, length, Some, None, refl, sym, ap}
use Rattle.script_reader.proofs.Common.{◌∙◌, arith, true≢false, AllByRecursion, is_none, eqb-true, eq-eqb, nat_tests, Fault, Words, Form, form, begins}
use Rattle.script_reader.proofs.Common.{has_form, form_of, ranges_of, are_numbers, are_in_range, first_reason, numbers_fault, row_fault}
use Rattle.script_reader.proofs.LineFaults.LineKinds.{one_behind, two_behind, three_behind, four_behind}
use Rattle.script_reader.specs.declared.fault.Fault.TheVariants as fault

-- a line of another length is none of this keyword and this length
pub other_length : (k : List ℕ) (n : ℕ) (words : Words) → (length words ≡ n → ⊥) → (begins k words && length words == n) ≡ false
other_length k n words other = grind (arith, nat_tests)

-- a line that has none of some forms
no_form : (forms : List Form) (words : Words) → AllByRecursion (λ f. has_form words f ≡ false) forms → form_of forms words ≡ None
no_form [] words all = refl
no_form (f ∷ forms) words all = (λ i. cond (all.0 i) (Some f) (form_of forms words)) ∙ no_form forms words all.1

module _ (forms : List Form) (words : Words) where
  -- a line of none of the forms
  pub word_wrong : AllByRecursion (λ f. has_form words f ≡ false) forms → row_fault forms words ≡ Some fault.Word
  word_wrong all i = first_reason (
      (is_none (no_form forms words all i), fault.Word)
      ∷ (not (are_numbers (drop 1 words)), fault.Number)
      ∷ (not (are_in_range (drop 1 words) (ranges_of (no_form forms words all i))), fault.Limit)
      ∷ []
      )

  -- what is wrong with the numbers of a line that has a form
  numbers_wrong : {f : Form} {why : Fault} → form_of forms words ≡ Some f → numbers_fault words f.ranges ≡ Some why → row_fault forms words ≡ Some why
  numbers_wrong e h = (λ i. first_reason (
      (is_none (e i), fault.Word)
      ∷ (not (are_numbers (drop 1 words)), fault.Number)
      ∷ (not (are_in_range (drop 1 words) (ranges_of (e i))), fault.Limit)
      ∷ []
      )) ∙ h

  pub one_wrong : (k : List ℕ) (r : ℕ × ℕ) (why : Fault) → ((a : List ℕ) → form_of forms (k ∷ a ∷ []) ≡ Some (form k (r ∷ [])))
      → (begins k words && length words == 2) ≡ true → numbers_fault words (r ∷ []) ≡ Some why → row_fault forms words ≡ Some why
  one_wrong k r why is row h =
      let e = one_behind k words row in
      numbers_wrong (ap (form_of forms) e.1 ∙ is e.0) h

  pub two_wrong : (k : List ℕ) (r s : ℕ × ℕ) (why : Fault) → ((a b : List ℕ) → form_of forms (k ∷ a ∷ b ∷ []) ≡ Some (form k (r ∷ s ∷ [])))
      → (begins k words && length words == 3) ≡ true → numbers_fault words (r ∷ s ∷ []) ≡ Some why → row_fault forms words ≡ Some why
  two_wrong k r s why is row h =
      let e = two_behind k words row in
      numbers_wrong (ap (form_of forms) e.2 ∙ is e.0 e.1) h

  pub three_wrong : (k : List ℕ) (r s t : ℕ × ℕ) (why : Fault) → ((a b c : List ℕ) → form_of forms (k ∷ a ∷ b ∷ c ∷ []) ≡ Some (form k (r ∷ s ∷ t ∷ [])))
      → (begins k words && length words == 4) ≡ true → numbers_fault words (r ∷ s ∷ t ∷ []) ≡ Some why → row_fault forms words ≡ Some why
  three_wrong k r s t why is row h =
      let e = three_behind k words row in
      numbers_wrong (ap (form_of forms) e.3 ∙ is e.0 e.1 e.2) h

  pub four_wrong : (k : List ℕ) (r s t u : ℕ × ℕ) {why : Fault}
      → ((a b c d : List ℕ) → form_of forms (k ∷ a ∷ b ∷ c ∷ d ∷ []) ≡ Some (form k (r ∷ s ∷ t ∷ u ∷ [])))
      → (begins k words && length words == 5) ≡ true → numbers_fault words (r ∷ s ∷ t ∷ u ∷ []) ≡ Some why → row_fault forms words ≡ Some why
  four_wrong k r s t u is row h =
      let e = four_behind k words row in
      numbers_wrong (ap (form_of forms) e.4 ∙ is e.0 e.1 e.2 e.3) h

-- a line of so many words that is of none of the forms that have as many
pub unknown_word : (forms : List Form) (words : Words) {n : ℕ} → length words ≡ n
    → AllByRecursion (λ f. (begins f.keyword words && length words == n) ≡ false) (filter (λ f. 1 + length f.ranges == n) forms)
    → row_fault forms words ≡ Some fault.Word
unknown_word forms words {n} long all = word_wrong forms words (none forms all)
  where
    none : (forms : List Form) → AllByRecursion (λ f. (begins f.keyword words && length words == n) ≡ false) (filter (λ f. 1 + length f.ranges == n) forms)
        → AllByRecursion (λ f. has_form words f ≡ false) forms
    none [] all = tt
    none (f ∷ forms) all = by (1 + length f.ranges == n) refl all (none forms)
      where
        by : (b : Bool) → (1 + length f.ranges == n) ≡ b
            → AllByRecursion (λ f. (begins f.keyword words && length words == n) ≡ false)
            (cond b (f ∷ filter (λ f. 1 + length f.ranges == n) forms) (filter (λ f. 1 + length f.ranges == n) forms))
            → (AllByRecursion (λ f. (begins f.keyword words && length words == n) ≡ false) (filter (λ f. 1 + length f.ranges == n) forms)
            → AllByRecursion (λ f. has_form words f ≡ false) forms)
            → AllByRecursion (λ f. has_form words f ≡ false) (f ∷ forms)
        by true e all rest = (ap (λ m. begins f.keyword words && length words == m) (eqb-true (1 + length f.ranges) n e) ∙ all.0, rest all.1)
        by false e all rest = (
          other_length f.keyword (1 + length f.ranges) words (λ same. true≢false (sym (eq-eqb (1 + length f.ranges) n (sym same ∙ long)) ∙ e)),
          rest all,
        )
