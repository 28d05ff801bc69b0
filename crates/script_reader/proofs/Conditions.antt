-- Tests over lists that are put together.
use Rattle.script_reader.proofs.Common.{◌≡◌, ◌+◌, Bool, true, false, not, ◌&&◌, ◌||◌, cond, List, [], ◌∷◌, ◌++◌, map, length, refl, sym, ap, ◌∙◌, arith}
use Rattle.script_reader.proofs.Common.{list_any, count_by, AllByRecursion, sum_by-cons}

-- whether a list has an element
abbrev pub is_some_list : {A : Type 0} → List A → Bool
is_some_list [] = false
is_some_list (x ∷ xs) = true

-- both of two tests that pass together
pub both : {a b : Bool} → (a && b) ≡ true → (a ≡ true) × (b ≡ true)
both {a = true} h = (refl, h)
both {a = false} h = cc

-- a test that passes leaves the other
pub and_true : {a b c : Bool} → a ≡ true → b ≡ c → (a && b) ≡ c
and_true {a = true} h g = g
and_true {a = false} h g = cc

-- the other of two of which one passes
pub or_left : {a b : Bool} → a ≡ true → (not a || b) ≡ true → b ≡ true
or_left {a = true} e h = h
or_left {a = false} e h = cc

pub or_right : (a : Bool) {b : Bool} → b ≡ true → (a || b) ≡ true
or_right true h = refl
or_right false h = h

-- a test whose opposite does not pass
pub passed : {a : Bool} → not a ≡ false → a ≡ true
passed {a = true} h = refl
passed {a = false} h = cc

-- neither of two tests that do not pass together
pub neither : {a b : Bool} → (a || b) ≡ false → (a ≡ false) × (b ≡ false)
neither {a = true} h = cc
neither {a = false} h = (refl, h)

-- a choice of one more
pub or_assoc : (p q r : Bool) → ((p || q) || r) ≡ (p || (q || r))
or_assoc true q r = refl
or_assoc false q r = refl

pub or_false : (p : Bool) → (p || false) ≡ p
or_false true = refl
or_false false = refl

module _ {A B : Type 0} (p : B → Bool) (f : A → B) where
  -- some element of a part passes, or of the rest
  pub any_part : (xs : List A) (ys : List B) → list_any p (map f xs ++ ys) ≡ (list_any (λ x. p (f x)) xs || list_any p ys)
  any_part [] ys = refl
  any_part (x ∷ xs) ys = ap (λ b. p (f x) || b) (any_part xs ys) ∙ sym (or_assoc (p (f x)) (list_any (λ x. p (f x)) xs) (list_any p ys))

  pub any_last : (xs : List A) → list_any p (map f xs) ≡ list_any (λ x. p (f x)) xs
  any_last [] = refl
  any_last (x ∷ xs) = ap (λ b. p (f x) || b) (any_last xs)

  -- as many pass as of the part and of the rest
  pub count_part : (xs : List A) (ys : List B) → count_by p (map f xs ++ ys) ≡ count_by (λ x. p (f x)) xs + count_by p ys
  count_part [] ys = omega arith
  count_part (x ∷ xs) ys = omega (
    arith,
    sum_by-cons (λ y. cond (p y) 1 0) (f x) (map f xs ++ ys),
    sum_by-cons (λ y. cond (p (f y)) 1 0) x xs,
    count_part xs ys,
  )

  pub count_last : (xs : List A) → count_by p (map f xs) ≡ count_by (λ x. p (f x)) xs
  count_last [] = refl
  count_last (x ∷ xs) = omega (
    arith,
    sum_by-cons (λ y. cond (p y) 1 0) (f x) (map f xs),
    sum_by-cons (λ y. cond (p (f y)) 1 0) x xs,
    count_last xs,
  )

module _ {A : Type 0} where
  -- a test that never passes
  pub any_never : (xs : List A) → list_any (λ x. false) xs ≡ false
  any_never [] = refl
  any_never (x ∷ xs) = any_never xs

  -- a test that is the same for each element
  pub any_fixed : (b : Bool) (xs : List A) → list_any (λ x. b) xs ≡ (b && is_some_list xs)
  any_fixed true [] = refl
  any_fixed true (x ∷ xs) = refl
  any_fixed false xs = any_never xs

  pub count_never : (xs : List A) → count_by (λ x. false) xs ≡ 0
  count_never [] = refl
  count_never (x ∷ xs) = omega (arith, sum_by-cons (λ (y : A). 0) x xs, count_never xs)

  pub count_always : (xs : List A) → count_by (λ x. true) xs ≡ length xs
  count_always [] = refl
  count_always (x ∷ xs) = omega (arith, sum_by-cons (λ (y : A). 1) x xs, count_always xs)

  -- tests that agree on each element of a list
  pub any_agree : (p q : A → Bool) (xs : List A) → AllByRecursion (λ x. p x ≡ q x) xs → list_any p xs ≡ list_any q xs
  any_agree p q [] all = refl
  any_agree p q (x ∷ xs) all = ap (λ b. b || list_any p xs) all.0 ∙ ap (λ b. q x || b) (any_agree p q xs all.1)

  -- a test that is also one of no element
  pub any_and : (b : Bool) (q : A → Bool) (xs : List A) → list_any (λ x. b && q x) xs ≡ (b && list_any q xs)
  any_and true q xs = refl
  any_and false q xs = any_never xs

-- what holds of the elements of two lists holds of those of both
pub all_append : {A : Type 0} (P : A → Type 0) (xs ys : List A) → AllByRecursion P xs → AllByRecursion P ys → AllByRecursion P (xs ++ ys)
all_append P [] ys h k = k
all_append P (x ∷ xs) ys h k = (h.0, all_append P xs ys h.1 k)
