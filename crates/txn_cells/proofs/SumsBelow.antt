-- Sums of terms by number, and sums over a list each of whose members has a number.
use Rattle.txn_cells.proofs.Common.{◌≡◌, ◌≢◌, ◌⊎◌, inl, inr, ⊎_elim, ℕ, zero, suc, ◌+◌, ◌*◌, ◌<◌, ◌≤◌, List, [], ◌∷◌, Some, length, slice_get, sum_by, refl}
use Rattle.txn_cells.proofs.Common.{sym, ap, ◌∙◌, arith, add-zero, same_Some, eqb_tells}
use Rattle.std.proofs.Common.{zero-add, zero-mul, suc-mul, one-add}
use Rattle.std.proofs.lemmas.List.Sums.{sum_by-cons}
use Rattle.txn_cells.specs.Adding.{sum_below}

pub same_below : (n : ℕ) (f g : ℕ → ℕ) → ((k : ℕ) → k < n → f k ≡ g k) → sum_below n f ≡ sum_below n g
unfolding sum_below
same_below zero f g same = refl
same_below (suc n) f g same =
    let front : sum_below n f ≡ sum_below n g = same_below n f g (λ k lt. same k (omega arith)) in
    let last : f n ≡ g n = same n (omega arith) in
    ap (λ x. x + f n) front ∙ ap (λ x. sum_below n g + x) last

-- terms that are all the same
pub alike_below : (n a : ℕ) (f : ℕ → ℕ) → ((k : ℕ) → k < n → f k ≡ a) → sum_below n f ≡ n * a
unfolding sum_below
alike_below zero a f same = sym (zero-mul a)
alike_below (suc n) a f same =
    let front : sum_below n f ≡ n * a = alike_below n a f (λ k lt. same k (omega arith)) in
    let last : f n ≡ a = same n (omega arith) in
    ap (λ x. x + f n) front ∙ (ap (λ x. n * a + x) last ∙ sym (suc-mul n a))

pub none_below : (n : ℕ) (f : ℕ → ℕ) → ((k : ℕ) → k < n → f k ≡ 0) → sum_below n f ≡ 0
unfolding sum_below
none_below zero f none = refl
none_below (suc n) f none =
    let front : sum_below n f ≡ 0 = none_below n f (λ k lt. none k (omega arith)) in
    let last : f n ≡ 0 = none n (omega arith) in
    omega (arith, front, last)

-- terms that are small
pub small_below : (n a : ℕ) (f : ℕ → ℕ) → ((k : ℕ) → k < n → f k ≤ a) → sum_below n f ≤ n * a
unfolding sum_below
small_below zero a f small = omega arith
small_below (suc n) a f small =
    let front : sum_below n f ≤ n * a = small_below n a f (λ k lt. small k (omega arith)) in
    let last : f n ≤ a = small n (omega arith) in
    omega (arith, front, last, suc-mul n a)

-- one term alone
pub one_below : (n k : ℕ) (f : ℕ → ℕ) → k < n → ((j : ℕ) → j < n → j ≢ k → f j ≡ 0) → sum_below n f ≡ f k
unfolding sum_below
one_below zero k f lt none = absurd (omega arith)
one_below (suc n) k f lt none = ⊎_elim
    (λ here. ap (λ x. x + f n) (none_below n f (λ j less. none j (omega arith) (λ e. absurd (omega (arith, here.1, e, less)))))
    ∙ (zero-add (f n) ∙ ap f here.1))
    (λ off.
    let last : f n ≡ 0 = none n (omega arith) off.1 in
    let front : sum_below n f ≡ f k = one_below n k f (below off.1) (λ j less. none j (omega arith)) in
    omega (arith, front, last))
    (eqb_tells n k)
  where
    below : n ≢ k → k < n
    below differ = omega (arith, differ, lt)

-- two terms in each
pub both_below : (n : ℕ) (f g : ℕ → ℕ) → sum_below n (λ k. f k + g k) ≡ sum_below n f + sum_below n g
unfolding sum_below
both_below zero f g = refl
both_below (suc n) f g = let front : sum_below n (λ k. f k + g k) ≡ sum_below n f + sum_below n g = both_below n f g in omega (arith, front)

-- a sum over each caller's rounds
abbrev pub sum_of_all : ℕ → ℕ → (ℕ → ℕ → ℕ) → ℕ
sum_of_all callers rounds f = sum_below callers (λ c. sum_below rounds (f c))

module _ (callers rounds : ℕ) where
  pub same_in_all : (f g : ℕ → ℕ → ℕ) → ((c r : ℕ) → c < callers → r < rounds → f c r ≡ g c r) → sum_of_all callers rounds f ≡ sum_of_all callers rounds g
  same_in_all f g same =
      same_below callers (λ c. sum_below rounds (f c)) (λ c. sum_below rounds (g c))
      (λ c lt. same_below rounds (f c) (g c) (λ r less. same c r lt less))

  pub none_in_all : (f : ℕ → ℕ → ℕ) → ((c r : ℕ) → c < callers → r < rounds → f c r ≡ 0) → sum_of_all callers rounds f ≡ 0
  none_in_all f none = none_below callers (λ c. sum_below rounds (f c)) (λ c lt. none_below rounds (f c) (λ r less. none c r lt less))

  pub one_in_all : (f : ℕ → ℕ → ℕ) (c r : ℕ) → c < callers → r < rounds
      → ((d s : ℕ) → (d ≢ c) ⊎ (s ≢ r) → f d s ≡ 0) → sum_of_all callers rounds f ≡ f c r
  one_in_all f c r lt less none =
      one_below callers c (λ d. sum_below rounds (f d)) lt (λ d _ no. none_below rounds (f d) (λ s _. none d s (inl no)))
      ∙ one_below rounds r (f c) less (λ s _ no. none c s (inr no))

  pub both_in_all : (f g : ℕ → ℕ → ℕ) → sum_of_all callers rounds (λ c r. f c r + g c r) ≡ sum_of_all callers rounds f + sum_of_all callers rounds g
  both_in_all f g =
      same_below callers (λ c. sum_below rounds (λ r. f c r + g c r)) (λ c. sum_below rounds (f c) + sum_below rounds (g c))
      (λ c _. both_below rounds (f c) (g c))
      ∙ both_below callers (λ c. sum_below rounds (f c)) (λ c. sum_below rounds (g c))

-- terms of a list's members
module _ {X : Type 0} where
  pub same_terms : (f g : X → ℕ) (xs : List X) → ((i : ℕ) (x : X) → slice_get xs i ≡ Some x → f x ≡ g x) → sum_by f xs ≡ sum_by g xs
  same_terms f g [] same = refl
  same_terms f g (x ∷ xs) same =
      sum_by-cons f x xs ∙ (ap (λ n. n + sum_by f xs) (same 0 x refl)
      ∙ (ap (λ n. g x + n) (same_terms f g xs (λ i y e. same (suc i) y e)) ∙ sym (sum_by-cons g x xs)))

  pub no_terms : (f : X → ℕ) (xs : List X) → ((i : ℕ) (x : X) → slice_get xs i ≡ Some x → f x ≡ 0) → sum_by f xs ≡ 0
  no_terms f [] none = refl
  no_terms f (x ∷ xs) none =
      let first : f x ≡ 0 = none 0 x refl in
      let rest : sum_by f xs ≡ 0 = no_terms f xs (λ i y e. none (suc i) y e) in
      sum_by-cons f x xs ∙ omega (arith, first, rest)

  pub one_term : (f : X → ℕ) (xs : List X) (i : ℕ) (x : X) → slice_get xs i ≡ Some x
      → ((j : ℕ) (y : X) → slice_get xs j ≡ Some y → j ≢ i → f y ≡ 0) → sum_by f xs ≡ f x
  one_term f [] i x e none = absurd (cc e)
  one_term f (y ∷ xs) zero x e none =
      let rest : sum_by f xs ≡ 0 = no_terms f xs (λ j z there. none (suc j) z there (λ no. cc no)) in
      sum_by-cons f y xs ∙ (ap (λ n. f y + n) rest ∙ (add-zero (f y) ∙ ap f (same_Some y x e)))
  one_term f (y ∷ xs) (suc i) x e none =
      let first : f y ≡ 0 = none 0 y refl (λ no. cc no) in
      let rest : sum_by f xs ≡ f x = one_term f xs i x e (λ j z there no. none (suc j) z there (λ same. no (cc same))) in
      sum_by-cons f y xs ∙ omega (arith, first, rest)

  pub ones : (xs : List X) → sum_by (λ _. 1) xs ≡ length xs
  ones [] = refl
  ones (x ∷ xs) = sum_by-cons (λ _. 1) x xs ∙ (ap (λ n. 1 + n) (ones xs) ∙ one-add (length xs))

  -- each member's sum over all rounds is each round's sum over the members
  pub turned : (callers rounds : ℕ) (part : X → ℕ → ℕ → ℕ) (xs : List X)
      → sum_by (λ x. sum_of_all callers rounds (part x)) xs ≡ sum_of_all callers rounds (λ c r. sum_by (λ x. part x c r) xs)
  turned callers rounds part [] = sym (none_in_all callers rounds (λ c r. 0) (λ c r _ _. refl))
  turned callers rounds part (x ∷ xs) =
      let rest : ℕ → ℕ → ℕ = λ c r. sum_by (λ y. part y c r) xs in
      sum_by-cons (λ y. sum_of_all callers rounds (part y)) x xs
      ∙ (ap (λ n. sum_of_all callers rounds (part x) + n) (turned callers rounds part xs)
      ∙ (sym (both_in_all callers rounds (part x) rest)
      ∙ same_in_all callers rounds (λ c r. part x c r + rest c r) (λ c r. sum_by (λ y. part y c r) (x ∷ xs))
      (λ c r _ _. sym (sum_by-cons (λ y. part y c r) x xs))))
