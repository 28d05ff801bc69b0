-- What tests of numbers, and of what was found, say.
use Rattle.books_model.proofs.Common.{◌≡◌, ℕ, ◌<◌, ◌≤◌, false, ◌==◌, nat_lt, Option, Some, None, is_some, refl, arith, nat_tests}

-- a number that is not 0 is at least 1
pub at_least_one : (n : ℕ) → (n == 0) ≡ false → 1 ≤ n
at_least_one n test = grind (arith, nat_tests, test)

-- a number that is at most another, and not the same, is below it
pub below_most : (n most : ℕ) → n ≤ most → (n == most) ≡ false → n < most
below_most n most fits test = grind (arith, nat_tests, fits, test)

-- numbers that are the same do not test apart
pub not_apart : (a b : ℕ) → a ≡ b → (a == b) ≡ false → ⊥
not_apart a b same test = grind (arith, nat_tests, same, test)

-- what is not too little is enough
pub enough : (have want : ℕ) → nat_lt have want ≡ false → want ≤ have
enough have want test = grind (arith, nat_tests, test)

-- nothing was found if the test says so
pub none_of : {X : Type 0} (x : Option X) → is_some x ≡ false → x ≡ None
none_of None _ = refl
none_of (Some v) none = absurd (cc)
