-- What is wrong with the numbers of a line.
use Rattle.script_reader.proofs.Common.{◌≡◌, ℕ, ◌<◌, true, false, not, ◌&&◌, ◌==◌, min, List, [], ◌∷◌, drop, length, Some, refl, sym, ap, subst, ◌∙◌, arith}
use Rattle.script_reader.proofs.Common.{leb-true, eqb-true, nat_tests, IsWithin, Fault, word_at, Words, begins, value_of, word_value, is_in_range, are_numbers}
use Rattle.script_reader.proofs.Common.{are_in_range, first_reason, HasNumbers, numbers_fault}
use Rattle.script_reader.proofs.text.Tokens.Numerals.{greatest_u64}
use Rattle.script_reader.proofs.Conditions.{both}
use Rattle.script_reader.specs.declared.fault.Fault.TheVariants as fault

-- a number that was read is in the range if its word is
pub ranged_true : (word : List ℕ) {low high n : ℕ} → high < greatest_u64
    → n ≡ min (value_of word) greatest_u64 → IsWithin low high n → is_in_range (word, (low, high)) ≡ true
ranged_true word exact e h = grind (arith, nat_tests)

-- and is the word's value there
pub ranged_value : (word : List ℕ) {low high n : ℕ} → high < greatest_u64
    → n ≡ min (value_of word) greatest_u64 → IsWithin low high n → n ≡ value_of word
ranged_value word {low} {high} {n} exact e h = omega (arith, e, h.1, exact)

pub ranged_false : (word : List ℕ) {low high n : ℕ} → high < greatest_u64
    → n ≡ min (value_of word) greatest_u64 → (IsWithin low high n → ⊥) → is_in_range (word, (low, high)) ≡ false
ranged_false word exact e out = grind (arith, nat_tests)

-- what is known of a word whose number was read, and is in its range
pub record IsReadWithin (word : List ℕ) (low high n : ℕ) : Type 0 where
  pub ranged : is_in_range (word, (low, high)) ≡ true
  pub value : n ≡ value_of word

pub read_within : (word : List ℕ) {low high n : ℕ} → high < greatest_u64 → n ≡ min (value_of word) greatest_u64 → IsWithin low high n
    → IsReadWithin word low high n
read_within word exact e h = record { ranged = ranged_true word exact e h; value = ranged_value word exact e h }

-- words behind the first that are numbers in their ranges
pub has_numbers : {words rest : Words} {ranges : List (ℕ × ℕ)} → drop 1 words ≡ rest → are_numbers rest ≡ true → are_in_range rest ranges ≡ true
    → HasNumbers words ranges
has_numbers {ranges} e numbers ranged = record { numbers = ap are_numbers e ∙ numbers; in_range = ap (λ l. are_in_range l ranges) e ∙ ranged }

-- numbers out of a range
pub limit_fault : (words : Words) {rest : Words} (ranges : List (ℕ × ℕ)) {why : Fault} → why ≡ fault.Limit → drop 1 words ≡ rest → are_numbers rest ≡ true
    → are_in_range rest ranges ≡ false → numbers_fault words ranges ≡ Some why
limit_fault words ranges is e numbers out = (λ i. first_reason (
    (not ((ap are_numbers e ∙ numbers) i), fault.Number)
    ∷ (not ((ap (λ l. are_in_range l ranges) e ∙ out) i), fault.Limit)
    ∷ []
    )) ∙ ap Some (sym is)

-- the words behind the first of four, and of five
pub behind_four : (words : Words) → length words ≡ 4 → drop 1 words ≡ word_at words 1 ∷ word_at words 2 ∷ word_at words 3 ∷ []
behind_four (a ∷ b ∷ c ∷ d ∷ []) h = refl
behind_four words h = absurd (omega (arith, h))

pub behind_five : (words : Words) → length words ≡ 5 → drop 1 words ≡ word_at words 1 ∷ word_at words 2 ∷ word_at words 3 ∷ word_at words 4 ∷ []
behind_five (a ∷ b ∷ c ∷ d ∷ e ∷ []) h = refl
behind_five words h = absurd (omega (arith, h))

-- the first number of a row is in its range
pub first_within : (words : Words) {low high : ℕ} (ranges : List (ℕ × ℕ)) → 1 < length words
    → are_in_range (drop 1 words) ((low, high) ∷ ranges) ≡ true → IsWithin low high (word_value words 1)
first_within [] ranges long h = absurd (omega (arith, long))
first_within (w ∷ []) ranges long h = absurd (omega (arith, long))
first_within (w ∷ a ∷ words) {low} {high} ranges long h = let parts = both (both h).0 in (leb-true low (value_of a) parts.0, leb-true (value_of a) high parts.1)

-- and so is the second
pub second_within : (words : Words) {low high : ℕ} (first : ℕ × ℕ) (ranges : List (ℕ × ℕ)) → 2 < length words
    → are_in_range (drop 1 words) (first ∷ (low, high) ∷ ranges) ≡ true → IsWithin low high (word_value words 2)
second_within [] first ranges long h = absurd (omega (arith, long))
second_within (w ∷ []) first ranges long h = absurd (omega (arith, long))
second_within (w ∷ a ∷ []) first ranges long h = absurd (omega (arith, long))
second_within (w ∷ a ∷ b ∷ words) {low} {high} first ranges long h = let parts = both (both (both h).1).0 in
    (leb-true low (value_of b) parts.0, leb-true (value_of b) high parts.1)

-- a row has so many words
pub row_length : (k : List ℕ) {n : ℕ} (words : Words) → (begins k words && length words == n) ≡ true → length words ≡ n
row_length k {n} words h = eqb-true (length words) n (both h).1

-- the first number of a row of so many words, and the second, as they are read
pub first_read : (k : List ℕ) {n : ℕ} {words : Words} {low high : ℕ} {ranges : List (ℕ × ℕ)} {v : ℕ} → 1 < n
    → (begins k words && length words == n) ≡ true → HasNumbers words ((low, high) ∷ ranges) → v ≡ word_value words 1 → IsWithin low high v
first_read k {words} {low} {high} {ranges} more row numbers is =
    subst (IsWithin low high) (sym is) (first_within words ranges (omega (arith, row_length k words row, more)) numbers.in_range)

pub second_read : (k : List ℕ) {n : ℕ} {words : Words} {low high : ℕ} {first : ℕ × ℕ} {ranges : List (ℕ × ℕ)} {v : ℕ} → 2 < n
    → (begins k words && length words == n) ≡ true → HasNumbers words (first ∷ (low, high) ∷ ranges) → v ≡ word_value words 2 → IsWithin low high v
second_read k {words} {low} {high} {first} {ranges} more row numbers is =
    subst (IsWithin low high) (sym is) (second_within words first ranges (omega (arith, row_length k words row, more)) numbers.in_range)
