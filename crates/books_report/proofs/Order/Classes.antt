-- Sums over a list, class by class.
use Rattle.books_report.proofs.Common.{◌≡◌, ℕ, zero, suc, ◌+◌, ◌<◌, ◌≤◌, ◌==◌, ◌&&◌, Bool, true, false, cond, List, [], ◌∷◌, length, take, get_or, count_by}
use Rattle.books_report.proofs.Common.{inl, inr, refl, sym, ap, ◌∙◌, subst, arith, AllByRecursion, sum_by-cons, eqb_tells}
use Rattle.std.proofs.Common.{sum_by}
use Rattle.std.proofs.lemmas.List.{take_all}
use Rattle.std.proofs.lemmas.List.Sums.{sum_by_more}

-- the sum of the first numbers of a sequence
abbrev pub sums : ℕ → (ℕ → ℕ) → ℕ
sums zero g = 0
sums (suc k) g = sums k g + g k

-- each a little more
pub sums-add : (k : ℕ) (g h : ℕ → ℕ) → sums k (λ i. g i + h i) ≡ sums k g + sums k h
sums-add zero g h = refl
sums-add (suc k) g h = omega (arith, sums-add k g h)

-- the same numbers have the same sum
pub sums-same : (k : ℕ) (g h : ℕ → ℕ) → ((i : ℕ) → i < k → g i ≡ h i) → sums k g ≡ sums k h
sums-same zero g h each = refl
sums-same (suc k) g h each = omega (arith, sums-same k g h (λ i less. each i (omega arith)), each k (omega arith))

-- as often as each is 1
pub sums-ones : (k : ℕ) (g : ℕ → ℕ) → ((i : ℕ) → i < k → g i ≡ 1) → sums k g ≡ k
sums-ones zero g each = refl
sums-ones (suc k) g each = omega (arith, sums-ones k g (λ i less. each i (omega arith)), each k (omega arith))

-- none of them is above
pub sums-le : (k : ℕ) (g h : ℕ → ℕ) → ((i : ℕ) → i < k → g i ≤ h i) → sums k g ≤ sums k h
sums-le zero g h each = omega arith
sums-le (suc k) g h each = omega (arith, sums-le k g h (λ i less. each i (omega arith)), each k (omega arith))

-- numbers of which none is above another's have its sum only if all are the same
pub sums-tight : (k : ℕ) (g h : ℕ → ℕ) → ((i : ℕ) → i < k → g i ≤ h i) → sums k g ≡ sums k h → (i : ℕ) → i < k → g i ≡ h i
sums-tight zero g h each same i less = absurd (omega arith)
sums-tight (suc k) g h each same i less =
    let below = sums-le k g h (λ i less. each i (omega arith)) in
    let last = each k (omega arith) in
    elim (eqb_tells i k) [
      | inl at ↦ subst (λ n. g n ≡ h n) (sym at.1) (omega (arith, below, last, same))
      | inr apart ↦ sums-tight k g h (λ i less. each i (omega arith)) (omega (arith, below, last, same)) i (omega (arith, apart.1, less))
    ]

-- nothing, as often as one likes
sums-none : (k : ℕ) → sums k (λ i. 0) ≡ 0
sums-none zero = refl
sums-none (suc k) = omega (arith, sums-none k)

-- one weight counts in its class alone
one_class : (w k : ℕ) (p : Bool) (n : ℕ) → (p ≡ true → n < k) → sums k (λ i. cond (p && n == i) w 0) ≡ cond p w 0
one_class w k false n within = sums-none k
one_class w k true n within = by k (within refl)
  where
    before : (k : ℕ) → k ≤ n → sums k (λ i. cond (n == i) w 0) ≡ 0
    before zero le = refl
    before (suc k) le = elim (eqb_tells n k) [
      | inl at ↦ absurd (omega (arith, at.1, le))
      | inr apart ↦
          omega (arith, before k (omega arith), ap {B = ℕ} (λ b. cond b w 0) apart.0)
    ]

    by : (k : ℕ) → n < k → sums k (λ i. cond (n == i) w 0) ≡ w
    by zero less = absurd (omega arith)
    by (suc k) less = elim (eqb_tells n k) [
      | inl at ↦ omega (arith, before k (omega (arith, at.1)), ap {B = ℕ} (λ b. cond b w 0) at.0)
      | inr apart ↦ omega (arith, by k (omega (arith, apart.1, less)), ap {B = ℕ} (λ b. cond b w 0) apart.0)
    ]

-- what those weigh that pass a test is what those of each class weigh together
pub by_weights : {A : Type 0} (p : A → Bool) (f w : A → ℕ) (k : ℕ) (xs : List A) → AllByRecursion (λ x. p x ≡ true → f x < k) xs
    → sum_by (λ x. cond (p x) (w x) 0) xs ≡ sums k (λ i. sum_by (λ x. cond (p x && f x == i) (w x) 0) xs)
by_weights p f w k [] all = sym (sums-none k)
by_weights p f w k (x ∷ xs) all =
    sum_by-cons (λ y. cond (p y) (w y) 0) x xs
    ∙ (λ i. sym (one_class (w x) k (p x) (f x) all.0) i + by_weights p f w k xs all.1 i)
    ∙ sym (sums-add k (λ i. cond (p x && f x == i) (w x) 0) (λ i. sum_by (λ y. cond (p y && f y == i) (w y) 0) xs))
    ∙ sums-same k _ _ (λ i less. sym (sum_by-cons (λ y. cond (p y && f y == i) (w y) 0) x xs))

-- and they are as many as those of each class together
pub by_classes : {A : Type 0} (p : A → Bool) (f : A → ℕ) (k : ℕ) (xs : List A)
    → AllByRecursion (λ x. p x ≡ true → f x < k) xs → count_by p xs ≡ sums k (λ i. count_by (λ x. p x && f x == i) xs)
by_classes p f k xs all = by_weights p f (λ x. 1) k xs all

-- the sum over the first elements of a list, by their places
pub sum_by_places : {A : Type 0} (f : A → ℕ) (d : A) (xs : List A) (k : ℕ) → k ≤ length xs → sum_by f (take k xs) ≡ sums k (λ i. f (get_or xs i d))
sum_by_places f d xs zero le = refl
sum_by_places f d xs (suc k) le = omega (arith, sum_by_more f xs k d (omega arith), ap (λ n. sum_by f (take n xs)) more, sum_by_places f d xs k (omega arith))
  where
    more : suc k ≡ k + 1
    more = omega arith

-- and over all of them
pub sum_by_all : {A : Type 0} (f : A → ℕ) (d : A) (xs : List A) → sum_by f xs ≡ sums (length xs) (λ i. f (get_or xs i d))
sum_by_all f d xs = ap (sum_by f) (sym (take_all (length xs) xs (omega arith))) ∙ sum_by_places f d xs (length xs) (omega arith)
