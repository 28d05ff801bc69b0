-- Numbers in their ranges, and the words of a header.
use Rattle.script_reader.proofs.Common.{◌≡◌, ℕ, ◌<◌, ◌≤◌, ◌^◌, Bool, true, false, not, ◌&&◌, nat_le, List, [], ◌∷◌, codes, map, length, slice_index_or, None}
use Rattle.script_reader.proofs.Common.{refl, ap, ◌∙◌, arith, list_all, AllByRecursion, le-leb, leb-true, ne_eqb, bytes_eq-Decides, bytes_eq, IsWithin, IsWord}
use Rattle.script_reader.proofs.Common.{AreWords, number, Words, is_only, begins, value_of, are_numbers, are_in_range, first_reason, is_word, Size}
use Rattle.script_reader.proofs.Common.{ListLanguage, AreNumbersIn, AreSizes, IsListLanguage, size_pairs, have_names, seconds, size_words, size_ranges}
use Rattle.script_reader.proofs.Common.{sizes_at, is_head_with, head_words, head_fault}
use Rattle.script_reader.proofs.Conditions.{and_true, both}
use Rattle.script_reader.proofs.text.Tokens.Cutting.{word_from_test}
use Rattle.script_reader.proofs.text.Tokens.Numerals.{text_of_number, value_of_number, number-IsNumber, number-IsWord}
use Rattle.script_reader.specs.declared.fault.Fault.TheVariants as fault

-- the texts of numbers are numbers
pub texts_are_numbers : (ranges : List (ℕ × ℕ)) (ns : List ℕ) → AreNumbersIn ranges ns → are_numbers (map number ns) ≡ true
texts_are_numbers [] [] h = refl
texts_are_numbers [] (n ∷ ns) h = absurd h
texts_are_numbers (r ∷ ranges) [] h = absurd h
texts_are_numbers (r ∷ ranges) (n ∷ ns) h = and_true (number-IsNumber n h.2) (texts_are_numbers ranges ns h.3)

-- in their ranges
pub texts_are_in_range : (ranges : List (ℕ × ℕ)) (ns : List ℕ) → AreNumbersIn ranges ns → are_in_range (map number ns) ranges ≡ true
texts_are_in_range [] [] h = refl
texts_are_in_range [] (n ∷ ns) h = absurd h
texts_are_in_range (r ∷ ranges) [] h = absurd h
texts_are_in_range (r ∷ ranges) (n ∷ ns) h =
    let value = value_of_number h.2 in
    and_true (and_true (ap (nat_le r.0) value ∙ le-leb r.0 n h.0) (ap (λ v. nat_le v r.1) value ∙ le-leb n r.1 h.1)) (texts_are_in_range ranges ns h.3)

-- words
pub texts_are_words : (ranges : List (ℕ × ℕ)) (ns : List ℕ) → AreNumbersIn ranges ns → AllByRecursion IsWord (map number ns)
texts_are_words [] [] h = tt
texts_are_words [] (n ∷ ns) h = absurd h
texts_are_words (r ∷ ranges) [] h = absurd h
texts_are_words (r ∷ ranges) (n ∷ ns) h = (number-IsWord h.2, texts_are_words ranges ns h.3)

-- and their values are the numbers
pub values_are : (ranges : List (ℕ × ℕ)) (ns : List ℕ) → AreNumbersIn ranges ns → map value_of (map number ns) ≡ ns
values_are [] [] h = refl
values_are [] (n ∷ ns) h = absurd h
values_are (r ∷ ranges) [] h = absurd h
values_are (r ∷ ranges) (n ∷ ns) h = λ i. value_of_number h.2 i ∷ values_are ranges ns h.3 i

-- words that are numbers in ranges of 64 bits
pub numbers_at : (ranges : List (ℕ × ℕ)) (ws : Words) → length ws ≡ length ranges → AllByRecursion (λ r. r.1 < 2 ^ 64) ranges → are_numbers ws ≡ true
    → are_in_range ws ranges ≡ true → AreNumbersIn ranges (map value_of ws) × (ws ≡ map number (map value_of ws))
numbers_at [] [] long bits numbers within = (tt, refl)
numbers_at [] (w ∷ ws) long bits numbers within = absurd (omega (arith, long))
numbers_at (r ∷ ranges) [] long bits numbers within = absurd (omega (arith, long))
numbers_at (r ∷ ranges) (w ∷ ws) long bits numbers within =
    let is = both numbers in
    let here = both within in
    let ends = both here.0 in
    let least : r.0 ≤ value_of w = leb-true r.0 (value_of w) ends.0 in
    let most : value_of w ≤ r.1 = leb-true (value_of w) r.1 ends.1 in
    let small : value_of w < 2 ^ 64 = omega (arith, most, bits.0) in
    let rest = numbers_at ranges ws (omega (arith, long)) bits.1 is.1 here.1 in
    ((least, most, small, rest.0), (λ i. text_of_number w is.0 small i ∷ rest.1 i))

-- two numbers in their ranges, and three
pub both_in : (r s : ℕ × ℕ) {a b : ℕ} → IsWithin r.0 r.1 a × IsWithin s.0 s.1 b → r.1 < 2 ^ 64 → s.1 < 2 ^ 64 → AreNumbersIn (r ∷ s ∷ []) (a ∷ b ∷ [])
both_in r s h f g = (h.0.0, h.0.1, omega (arith, h.0.1, f), (h.1.0, h.1.1, omega (arith, h.1.1, g), tt))

pub three_in : (r s t : ℕ × ℕ) {a b c : ℕ} → IsWithin r.0 r.1 a × IsWithin s.0 s.1 b × IsWithin t.0 t.1 c
    → r.1 < 2 ^ 64 → s.1 < 2 ^ 64 → t.1 < 2 ^ 64 → AreNumbersIn (r ∷ s ∷ t ∷ []) (a ∷ b ∷ c ∷ [])
three_in r s t h f g k = (h.0.0, h.0.1, omega (arith, h.0.1, f), both_in s t (h.1, h.2) g k)

-- they are those at their places
pub one_number : (r : ℕ × ℕ) (ns : List ℕ) → AreNumbersIn (r ∷ []) ns → slice_index_or ns 0 0 ∷ [] ≡ ns
one_number r [] h = absurd h
one_number r (a ∷ []) h = refl
one_number r (a ∷ b ∷ ns) h = absurd h.3

pub two_numbers : (r s : ℕ × ℕ) (ns : List ℕ) → AreNumbersIn (r ∷ s ∷ []) ns → slice_index_or ns 0 0 ∷ slice_index_or ns 1 0 ∷ [] ≡ ns
two_numbers r s [] h = absurd h
two_numbers r s (a ∷ ns) h = ap (λ l. a ∷ l) (one_number s ns h.3)

pub three_numbers : (r s t : ℕ × ℕ) (ns : List ℕ) → AreNumbersIn (r ∷ s ∷ t ∷ []) ns
    → slice_index_or ns 0 0 ∷ slice_index_or ns 1 0 ∷ slice_index_or ns 2 0 ∷ [] ≡ ns
three_numbers r s t [] h = absurd h
three_numbers r s t (a ∷ ns) h = ap (λ l. a ∷ l) (two_numbers s t ns h.3)

-- a word is itself
pub same_word : (word : List ℕ) → bytes_eq word word ≡ true
same_word word = (bytes_eq-Decides word word).1 refl

-- the names of sizes stand in front of them
names_there : (sizes : List Size) (ns : List ℕ) → AreNumbersIn (map (λ s. s.range) sizes) ns → have_names sizes (size_pairs sizes ns) ≡ true
names_there [] [] h = refl
names_there [] (n ∷ ns) h = absurd h
names_there (s ∷ sizes) [] h = absurd h
names_there (s ∷ sizes) (n ∷ ns) h = and_true (same_word s.name) (names_there sizes ns h.3)

seconds_there : (sizes : List Size) (ns : List ℕ) → AreNumbersIn (map (λ s. s.range) sizes) ns → seconds (size_pairs sizes ns) ≡ map number ns
seconds_there [] [] h = refl
seconds_there [] (n ∷ ns) h = absurd h
seconds_there (s ∷ sizes) [] h = absurd h
seconds_there (s ∷ sizes) (n ∷ ns) h = ap (λ l. number n ∷ l) (seconds_there sizes ns h.3)

pairs_are_words : (sizes : List Size) (ns : List ℕ) → list_all (λ s. is_word s.name) sizes ≡ true → AreNumbersIn (map (λ s. s.range) sizes) ns
    → AllByRecursion IsWord (size_pairs sizes ns)
pairs_are_words [] ns names h = tt
pairs_are_words (s ∷ sizes) [] names h = absurd h
pairs_are_words (s ∷ sizes) (n ∷ ns) names h =
    let parts = both names in (word_from_test s.name parts.0, (number-IsWord h.2, pairs_are_words sizes ns parts.1 h.3))

-- a test beside one that does not pass
pub and_fails : (b : Bool) {c : Bool} → c ≡ false → (b && c) ≡ false
and_fails true e = e
and_fails false e = refl

module _ {O S : Type 0} (g : ListLanguage O S) where
  -- the sizes of a header's words
  pub sizes_are : {ns : List ℕ} → AreSizes g ns → sizes_at (head_words g ns) ≡ ns
  sizes_are {ns} h = ap (map value_of) (seconds_there g.sizes ns h) ∙ values_are (size_ranges g) ns h

  -- a header has no fault
  pub head_fine : (ns : List ℕ) → AreSizes g ns → head_fault g (head_words g ns) ≡ None
  head_fine ns h = λ i. first_reason ((not (is i), fault.Header) ∷ (not (numbers i), fault.Number) ∷ (not (ranges i), fault.Limit) ∷ [])
    where
      is : is_head_with g.title g.sizes (head_words g ns) ≡ true
      is = and_true (and_true (same_word g.title) refl) (names_there g.sizes ns h)

      numbers : are_numbers (size_words (head_words g ns)) ≡ true
      numbers = ap are_numbers (seconds_there g.sizes ns h) ∙ texts_are_numbers (size_ranges g) ns h

      ranges : are_in_range (size_words (head_words g ns)) (size_ranges g) ≡ true
      ranges = ap (λ w. are_in_range w (size_ranges g)) (seconds_there g.sizes ns h) ∙ texts_are_in_range (size_ranges g) ns h

  -- its words are those of a line, which is not the last one
  pub head_AreWords : (ns : List ℕ) → IsListLanguage g → AreSizes g ns → AreWords (head_words g ns)
  head_AreWords ns lawful h = record {
    some = omega arith;
    each = (word_from_test g.title lawful.title, (word_from_test (codes "1") refl, pairs_are_words g.sizes ns lawful.names h));
  }

  pub head_goes_on : (ns : List ℕ) → is_only (codes "finish") (head_words g ns) ≡ false
  head_goes_on ns = and_fails (begins (codes "finish") (head_words g ns)) (ne_eqb (length (head_words g ns)) 1 (λ e. omega (arith, e)))
