-- How numbers, truth values and options are spelled in words.
use Rattle.std.proofs.Common.{◌≡◌, ℕ, ◌<◌, ◌^◌, ◌/◌, ◌%◌, Bool, true, false, List, [], ◌∷◌, Option, Some, None, length, refl, arith}

-- the low 64 bits of a number, and the others
abbrev pub halves_of : ℕ → List ℕ
halves_of x = x % 2 ^ 64 ∷ x / 2 ^ 64 ∷ []

pub one_of_halves : (x y : ℕ) → x < 2 ^ 128 → y < 2 ^ 128 → halves_of x ≡ halves_of y → x ≡ y
one_of_halves x y p q e =
    let low : x % 2 ^ 64 ≡ y % 2 ^ 64 = cc e in
    let high : x / 2 ^ 64 ≡ y / 2 ^ 64 = cc e in
    omega (arith, low, high)

abbrev pub words_of_bool : Bool → List ℕ
words_of_bool true = 1 ∷ []
words_of_bool false = 0 ∷ []

pub one_word_of_bool : (x : Bool) → length (words_of_bool x) ≡ 1
one_word_of_bool true = refl
one_word_of_bool false = refl

pub one_bool : (x y : Bool) → words_of_bool x ≡ words_of_bool y → x ≡ y
one_bool true true e = refl
one_bool false false e = refl
one_bool true false e = absurd (cc e)
one_bool false true e = absurd (cc e)

abbrev pub words_of_option : Option ℕ → List ℕ
words_of_option None = 0 ∷ 0 ∷ []
words_of_option (Some v) = 1 ∷ v ∷ []

pub two_words_of_option : (x : Option ℕ) → length (words_of_option x) ≡ 2
two_words_of_option None = refl
two_words_of_option (Some v) = refl

pub one_option : (x y : Option ℕ) → words_of_option x ≡ words_of_option y → x ≡ y
one_option None None e = refl
one_option (Some v) (Some w) e = cc e
one_option None (Some w) e = absurd (cc e)
one_option (Some v) None e = absurd (cc e)
