-- What is wrong with numbers that are looked at two at a time.
use Rattle.script_reader.proofs.Common.{◌≡◌, ℕ, ◌<◌, Bool, true, false, not, ◌&&◌, min, List, [], ◌∷◌, drop, length, Some, refl, sym, ap, ◌∙◌, arith, nat_tests}
use Rattle.script_reader.proofs.Common.{IsWithin, Fault, word_at, Words, value_of, is_in_range, are_numbers, are_in_range, first_reason, numbers_fault}
use Rattle.script_reader.proofs.text.Tokens.Numerals.{greatest_u64}
use Rattle.script_reader.specs.declared.fault.Fault.TheVariants as fault

-- two tests of which one does not pass, before others
pub not_both : (a b more : Bool) → (a && b) ≡ false → (a && (b && more)) ≡ false
not_both true true more h = cc
not_both true false more h = refl
not_both false b more h = refl

-- two numbers that are not both in their ranges, as their words
pub pair_false : (w v : List ℕ) {r s : ℕ × ℕ} {n m : ℕ} → r.1 < greatest_u64 → s.1 < greatest_u64
    → n ≡ min (value_of w) greatest_u64 → m ≡ min (value_of v) greatest_u64
    → (IsWithin r.0 r.1 n × IsWithin s.0 s.1 m → ⊥) → (is_in_range (w, r) && is_in_range (v, s)) ≡ false
pair_false w v exact_r exact_s e f out = grind (arith, nat_tests)

-- a word that is no number
pub number_fault : (words : Words) {rest : Words} (ranges : List (ℕ × ℕ)) {why : Fault} → why ≡ fault.Number → drop 1 words ≡ rest → are_numbers rest ≡ false
    → numbers_fault words ranges ≡ Some why
number_fault words ranges is e none = (λ i. first_reason (
    (not ((ap are_numbers e ∙ none) i), fault.Number)
    ∷ (not (are_in_range (drop 1 words) ranges), fault.Limit)
    ∷ []
    )) ∙ ap Some (sym is)

-- the words behind the first of three
pub behind_three : (words : Words) → length words ≡ 3 → drop 1 words ≡ word_at words 1 ∷ word_at words 2 ∷ []
behind_three (a ∷ b ∷ c ∷ []) h = refl
behind_three words h = absurd (omega (arith, h))
