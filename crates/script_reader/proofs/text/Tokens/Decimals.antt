-- The digits of a number in a text.
use Rattle.script_reader.proofs.Common.{◌≡◌, ℕ, ◌+◌, ◌/◌, ◌^◌, ◌<◌, ◌≤◌, List, [], ◌∷◌, ◌++◌, sym, ap, ◌∙◌, append_assoc, arith, number}
use Rattle.std.proofs.Common.{◌%◌}
use Rattle.std.proofs.lemmas.Fmt.{decimal_digit, decimal_step_wide}

-- two digits
abbrev pub pair : ℕ → List ℕ
pair n = (48 + n / 10) ∷ (48 + n % 10) ∷ []

-- a number below ten is a digit
pub one_digit : (before : List ℕ) {now : List ℕ} {n : ℕ} → n < 10 → now ≡ before ++ (48 + n) ∷ [] → now ≡ before ++ number n
one_digit before {n} small written = written ∙ ap (λ ds. before ++ ds) (sym (decimal_digit n small))

-- from there to a hundred it is two
number-pair : {n : ℕ} → 10 ≤ n → n < 100 → number n ≡ pair n
number-pair {n} great small = rw (decimal_step_wide n great (omega arith), decimal_digit (n / 10) (omega arith))

pub two_digits : (before : List ℕ) {now : List ℕ} {n : ℕ} → 10 ≤ n → n < 100 → now ≡ before ++ pair n → now ≡ before ++ number n
two_digits before great small written = written ∙ ap (λ ds. before ++ ds) (sym (number-pair great small))

-- and from there on the last two stand behind those of a hundredth
number-more : {n : ℕ} → 100 ≤ n → n < 2 ^ 128 → number n ≡ number (n / 100) ++ pair (n % 100)
number-more {n} great fits =
    let a : n / 10 / 10 ≡ n / 100 = omega arith in
    let b : n / 10 % 10 ≡ n % 100 / 10 = omega arith in
    let c : n % 10 ≡ n % 100 % 10 = omega arith in
    rw (decimal_step_wide n (omega arith) (omega arith), decimal_step_wide (n / 10) (omega arith) (omega arith), append_assoc, a, b, ← c)

pub two_more : (before : List ℕ) {hundredth now : List ℕ} {n : ℕ} → 100 ≤ n → n < 2 ^ 128 → hundredth ≡ before ++ number (n / 100)
    → now ≡ hundredth ++ pair (n % 100) → now ≡ before ++ number n
two_more before {n} great fits first last =
    last ∙ ap (λ ds. ds ++ pair (n % 100)) first ∙ append_assoc before (number (n / 100)) (pair (n % 100))
    ∙ ap (λ ds. before ++ ds) (sym (number-more great fits))
