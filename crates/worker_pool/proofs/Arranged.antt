-- Tests that hold once in a list, and hold once in another order of it; numbers that stand in a list once at most.
use Rattle.worker_pool.proofs.Common.{◌≡◌, ℕ, zero, suc, ◌+◌, ◌<◌, ◌≤◌, ◌==◌, if◌then◌else◌, Bool, true, false, cond, List, [], ◌∷◌, length, AllPairs, count_by}
use Rattle.worker_pool.proofs.Common.{refl, ap, ◌∙◌, arith, sum_by, dite, ℕ_discrete, nat_tests, sum_by-cons, get_or-le-sum_by, get_or_from_slice_get}
use Rattle.worker_pool.proofs.Common.{slice_get_within, IsIn, once_below, times, AreAt, AreAllPlaces}
use native.Mathlib.Decide.{dec_lt}
use Rattle.worker_pool.proofs.Sums.{times_cons}

-- a number that stands in a list, taken out of it
taken_out : (n : ℕ) (xs : List ℕ) → 0 < times n xs
    → (rest : List ℕ) × (length xs ≡ suc (length rest)) × ((f : ℕ → ℕ) → sum_by f xs ≡ f n + sum_by f rest)
taken_out n [] some = absurd (omega arith)
taken_out n (x ∷ xs) some = dite (ℕ_discrete x n)
    (λ here. (xs, refl, λ f. sum_by-cons f x xs ∙ ap (λ k. f k + sum_by f xs) here))
    (λ off.
    let rest = taken_out n xs (grind (arith, nat_tests, times_cons n x xs, off, some)) in
    (x ∷ rest.0, omega (arith, rest.1), λ f. omega (arith, sum_by-cons f x xs, rest.2 f, sum_by-cons f x rest.0)))

below_more : (x n t : ℕ) → (x ≡ n → t ≡ 0) → t ≤ once_below x (suc n) → t ≤ once_below x n
below_more x n t here le = grind (arith, nat_tests, here, le)

-- a list of numbers below n, each once at most, has at most n
pub few_once : (n : ℕ) (xs : List ℕ) → ((x : ℕ) → times x xs ≤ once_below x n) → length xs ≤ n
few_once zero [] h = omega arith
few_once zero (x ∷ xs) h = absurd (grind (arith, nat_tests, h x, times_cons x x xs))
few_once (suc n) xs h = dite (dec_lt 0 (times n xs))
    (λ some. let out = taken_out n xs some in omega (
      arith,
      out.1,
      few_once n out.0 (λ x. below_more x n (times x out.0)
          (λ e. ap (λ k. times k out.0) e ∙ grind (arith, nat_tests, h n, out.2 (λ y. if y == n then 1 else 0)))
          (omega (arith, h x, out.2 (λ y. if y == x then 1 else 0)))),
    ))
    (λ none. omega (arith, few_once n xs (λ x. below_more x n (times x xs) (λ e. ap (λ k. times k xs) e ∙ omega (arith, none)) (h x))))

-- a test that holds of some that stand in a list holds of one
somewhere : {X : Type 0} (test : X → Bool) (xs : List X) → 0 < count_by test xs → (x : X) × (IsIn x xs) × (test x ≡ true)
somewhere test [] some = absurd (omega arith)
somewhere {X = X} test (x ∷ xs) some = by (test x) refl (somewhere test xs)
  where
    by : (b : Bool) → test x ≡ b → (0 < count_by test xs → (y : X) × (IsIn y xs) × (test y ≡ true)) → (y : X) × (IsIn y (x ∷ xs)) × (test y ≡ true)
    by true is later = (x, (zero, refl), is)
    by false is later =
        let rest = later (omega (arith, some, sum_by-cons (λ y. cond (test y) 1 0) x xs, ap {B = ℕ} (λ b. cond b 1 0) is)) in
        (rest.0, (suc rest.1.0, rest.1.1), rest.2)

-- and if it holds of no two, it holds once at most
held_once : {X : Type 0} (test : X → Bool) (xs : List X) → AllPairs (λ x y. test x ≡ true → test y ≡ true → ⊥) xs → count_by test xs ≤ 1
held_once test [] apart = omega arith
held_once test (x ∷ xs) apart = by (test x) refl
    (held_once test xs (λ i j d lt short. apart (suc i) (suc j) d (omega (arith, lt)) (omega (arith, short))))
  where
    more : count_by test (x ∷ xs) ≡ cond (test x) 1 0 + count_by test xs
    more = sum_by-cons (λ y. cond (test y) 1 0) x xs

    by : (b : Bool) → test x ≡ b → count_by test xs ≤ 1 → count_by test (x ∷ xs) ≤ 1
    by true is later = dite (dec_lt 0 (count_by test xs))
        (λ some.
        let other = somewhere test xs some in
        let lt = slice_get_within xs other.1.0 other.0 other.1.1 in
        absurd (apart 0 (suc other.1.0) x (omega arith) (omega (arith, lt)) is
        (ap test (get_or_from_slice_get xs other.1.0 other.0 x other.1.1) ∙ other.2)))
        (λ none. omega (arith, more, none, ap {B = ℕ} (λ b. cond b 1 0) is))
    by false is later = omega (arith, more, later, ap {B = ℕ} (λ b. cond b 1 0) is)

-- a test that holds once of what was given, and of no two in another order of it, holds once there
pub once_arranged : {X : Type 0} (given done : List X) (places : List ℕ) → AreAt given places done → AreAllPlaces (length given) places
    → (test : X → Bool) → count_by test given ≡ 1 → AllPairs (λ x y. test x ≡ true → test y ≡ true → ⊥) done → count_by test done ≡ 1
once_arranged given done places at all test once apart =
    let found = somewhere test given (omega (arith, once)) in
    let place = all.whole found.1.0 (slice_get_within given found.1.0 found.0 found.1.1) in
    let stands = at.each place.0 found.1.0 place.1 ∙ found.1.1 in
    let holds = ap test (get_or_from_slice_get done place.0 found.0 found.0 stands) ∙ found.2 in
    let le = get_or-le-sum_by (λ x. cond (test x) 1 0) done place.0 found.0 (slice_get_within done place.0 found.0 stands) in
    omega (arith, le, ap {B = ℕ} (λ b. cond b 1 0) holds, held_once test done apart)
