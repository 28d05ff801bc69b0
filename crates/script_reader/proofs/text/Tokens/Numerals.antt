-- What words that are numbers say.
use Rattle.script_reader.proofs.Common.{refl, ◌≡◌, ℕ, ◌^◌, ◌<◌, true, not, ◌||◌, ◌==◌, min, Option, Some, None, List, [], ◌∷◌, length, sym, ap, subst, ◌∙◌}
use Rattle.script_reader.proofs.Common.{lit<, inl, inr, arith, all_ascii_digits, digits_value, cases_lt, leb-true, le-leb, eqb-true, eq-eqb, ne_eqb, eqb_tells}
use Rattle.script_reader.proofs.Common.{numerals_by_value, tells_all_ascii_digits, IsFreeOf, IsWord, number}
use Rattle.std.proofs.Common.{slice_index}
use Rattle.std.specs.Option.{SomeIff}
use Rattle.std.proofs.lemmas.Fmt.{decimal-digits_value, digits_decimal, digits_value-decimal, decimal_nonempty, first_decimal, length-decimal-le}
use Rattle.std.proofs.lemmas.Str.Parse.{IsNumeralModel}
use Rattle.script_reader.specs.Number.{IsNumber}
use Rattle.script_reader.proofs.Conditions.{both, and_true, or_left, or_right}

-- digits and their value, in the words of the library
model : IsNumeralModel (λ ds. all_ascii_digits ds ≡ true) (digits_value 10)
model = numerals_by_value _ tells_all_ascii_digits

-- what the test of a number says
pub record NumberParts (word : List ℕ) : Type 0 where
  pub some : 0 < length word
  pub digits : all_ascii_digits word ≡ true
  pub front : slice_index word 0 ≡ 48 → length word ≡ 1

pub number_parts : (word : List ℕ) → IsNumber word → NumberParts word
number_parts word h =
    let parts = both h in
    let more = both parts.0 in
    record { some = leb-true 1 (length word) more.0; digits = parts.1; front = λ zero. front more.1 zero }
  where
    front : (not (slice_index word 0 == 48) || length word == 1) ≡ true → slice_index word 0 ≡ 48 → length word ≡ 1
    front h zero = eqb-true (length word) 1 (or_left (eq-eqb (slice_index word 0) 48 zero) h)

-- a number has its own text
pub text_of_number : (word : List ℕ) → IsNumber word → digits_value 10 word < 2 ^ 64 → word ≡ number (digits_value 10 word)
text_of_number word h small = let parts = number_parts word h in sym (decimal-digits_value model word parts.digits parts.some parts.front small)

-- the text of a number is a number
pub number-IsNumber : (n : ℕ) → n < 2 ^ 64 → IsNumber (number n)
number-IsNumber n small = and_true (and_true (le-leb 1 (length (number n)) (decimal_nonempty n small)) front) (digits_decimal model n small)
  where
    front : (not (slice_index (number n) 0 == 48) || length (number n) == 1) ≡ true
    front = elim (cases_lt 0 n) [
      | inl more ↦ rw (ne_eqb (slice_index (number n) 0) 48 (λ first. omega (arith, first_decimal n more small))) refl
      | inr none ↦ or_right (not (slice_index (number n) 0 == 48))
          (eq-eqb (length (number n)) 1 (omega (arith, length-decimal-le 1 n (omega arith) (omega arith) small, decimal_nonempty n small)))
    ]

-- with its value
pub value_of_number : {n : ℕ} → n < 2 ^ 64 → digits_value 10 (number n) ≡ n
value_of_number {n} small = digits_value-decimal model n small

-- digits can stand as a word
digits-free : {c : ℕ} (word : List ℕ) → c < 48 → all_ascii_digits word ≡ true → IsFreeOf c word
digits-free [] low digits = tt
digits-free {c} (b ∷ word) low digits =
    let parts = tells_all_ascii_digits.parts b word digits in
    (elim (eqb_tells b c) [ inl same ↦ absurd (omega arith) | inr apart ↦ apart.0 ], digits-free word low parts.1)

-- the text of a number can stand as a word
pub number-IsWord : {n : ℕ} → n < 2 ^ 64 → IsWord (number n)
number-IsWord {n} small = (digits-free _ (lit< tt) (digits_decimal model n small), digits-free _ (lit< tt) (digits_decimal model n small))

-- the greatest number of 64 bits, as which a greater one is read
abbrev pub greatest_u64 : ℕ
greatest_u64 = 18446744073709551615

-- what was read of a word, below the greatest number, is the word's number
pub read_is : (word : List ℕ) (n : ℕ) → IsNumber word × (min (digits_value 10 word) greatest_u64 ≡ n) → n < greatest_u64 → word ≡ number n
read_is word n h small = let same : digits_value 10 word ≡ n = omega arith in text_of_number word h.0 (omega arith) ∙ ap number same

-- a number is read as itself
pub number_is_read : (r : Option ℕ) (word : List ℕ) (n : ℕ)
    → SomeIff r (IsNumber word) (min (digits_value 10 word) greatest_u64) → n < greatest_u64 → word ≡ number n → r ≡ Some n
number_is_read None word n h small e = absurd (h (subst IsNumber (sym e) (number-IsNumber n (omega arith))))
number_is_read (Some x) word n h small e =
    let value : digits_value 10 word ≡ n = ap (digits_value 10) e ∙ value_of_number (omega arith) in
    let same : x ≡ n = omega arith in
    ap Some same
