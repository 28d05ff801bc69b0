use Rattle.script_reader.proofs.Common.{ℕ, ◌≡◌, ◌+◌, get_or, take, true, ◌&&◌, List, [], ◌∷◌, refl, sym, ap, ◌∙◌, arith, list_all, all_ascii_digits}
use Rattle.script_reader.proofs.Common.{numerals_by_value, tells_all_ascii_digits}
use Rattle.std.specs.Int.{IsInRange}
use Rattle.std.specs.Char.{is_ascii_digit}
use Rattle.std.proofs.lemmas.Str.{digit_value_digit}
use Rattle.std.proofs.lemmas.Str.Parse.{digit_at}
use Rattle.std.proofs.lemmas.List.Folds.{list_all_more, list_all_at}
use Rattle.std.proofs.lemmas.Int.Digits.{digits_value_more}
use Rattle.script_reader.proofs.Conditions.{and_true}
use Rattle.script_reader.proofs.text.numbers.value_of.Goals as goal

-- digits are bytes that each are one
each_is : (word : List ℕ) → all_ascii_digits word ≡ list_all is_ascii_digit word
each_is [] = refl
each_is (b ∷ word) = ap (λ rest. is_ascii_digit b && rest) (each_is word)

-- a byte that is a digit is in their range
digit : (b : ℕ) → is_ascii_digit b ≡ true → IsInRange 48 57 b
digit b one = digit_at (b ∷ []) 0 ((numerals_by_value _ tells_all_ascii_digits).to (b ∷ []) (and_true one refl)) (omega arith)

pub returns-then-not-is_ascii_digit : goal.returns-then-not-is_ascii_digit
returns-then-not-is_ascii_digit c digits =
    let apart = list_all_at is_ascii_digit c.args.word.now c.loop-b.b-index 0 c.loop-b-test.true
    (sym c.is_ascii_digit.ensures.value ∙ c.if-not-is_ascii_digit.true) in
    absurd (cc (digits, each_is c.args.word.now, apart))

pub loop-b-preserved : goal.loop-b-preserved
loop-b-preserved c =
    let one = sym c.is_ascii_digit.ensures.value ∙ c.if-not-is_ascii_digit.false in
    let digits = each_is (take (c.loop-b.b-index + 1) c.args.word.now)
    ∙ list_all_more is_ascii_digit c.args.word.now c.loop-b.b-index 0 c.loop-b-test.true
    ∙ and_true (sym (each_is (take c.loop-b.b-index c.args.word.now)) ∙ c.loop-b.invariant.0) one in (
      digits,
      omega (
        arith,
        digits_value_more 10 c.args.word.now c.loop-b.b-index c.loop-b-test.true,
        digit_value_digit (get_or c.args.word.now c.loop-b.b-index 0) (digit (get_or c.args.word.now c.loop-b.b-index 0) one),
      ),
    )
