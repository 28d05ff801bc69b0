-- Command lines.
use Rattle.twoplsf.proofs.Common.{◌≡◌, ◌<◌, ℕ, List, length, sym, ap, ◌∙◌, subst, arith, inl, inr, Option, Some, None, number, IsDrill, IsValidCommand}
use Rattle.std.proofs.Common.{min, IfNone}
use Rattle.std.specs.Option.{SomeIff}
use Rattle.std.specs.Str.Parse.{digits_value}
use Rattle.script_reader.specs.Number.{IsNumber}
use Rattle.script_reader.proofs.text.Tokens.Numerals.{read_is, greatest_u64}

-- what was read of a word is its number
pub number_of : (r : Option ℕ) (word : List ℕ) (w : ℕ)
    → SomeIff r (IsNumber word) (min (digits_value 10 word) greatest_u64) → r ≡ Some w → w < greatest_u64 → word ≡ number w
number_of r word w reads is few = by_some (subst (λ o. SomeIff o (IsNumber word) (min (digits_value 10 word) greatest_u64)) is reads)
  where
    by_some : IsNumber word × (w ≡ min (digits_value 10 word) greatest_u64) → word ≡ number w
    by_some h = read_is word w (h.0, sym h.1) few

-- a command of five words is a drill
pub five_words : (words : List (List ℕ)) → length words ≡ 5 → IsValidCommand words → IsDrill words
five_words words five (inl (inl run)) = absurd (omega (arith, five, ap length run.1.words_are))
five_words words five (inl (inr (inl check))) = absurd (omega (arith, five, ap length check))
five_words words five (inl (inr (inr (inl records)))) = absurd (omega (arith, five, ap length records.1.words_are))
five_words words five (inl (inr (inr (inr orders)))) = absurd (omega (arith, five, ap length orders.1.words_are))
five_words words five (inr (inl make)) = absurd (omega (arith, five, ap length make.3.words_are))
five_words words five (inr (inr (inl drill))) = drill
five_words words five (inr (inr (inr cells))) = absurd (omega (arith, five, ap length cells.2.words_are))

-- what holds at all does so if there is no value
pub in_none : {X : Type 0} (r : Option X) (P : Type 0) → P → IfNone r P
in_none None P h = h
in_none (Some x) P h = tt

-- one option has one value
pub other_some : (r : Option ℕ) (x y : ℕ) → r ≡ Some x → r ≡ Some y → x ≡ y
other_some r x y first second = let same : Some x ≡ Some y = sym first ∙ second in cc
