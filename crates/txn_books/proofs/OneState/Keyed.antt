-- Lists of entries whose keys a rising function changes to numbers, and two lists of entries in one.
use Rattle.txn_books.proofs.Common.{◌≡◌, ◌≢◌, ℕ, ◌<◌, ◌≤◌, Bool, true, false, cond, T, nat_lt, List, [], ◌∷◌, ◌++◌, map, Some, None, refl, sym, ap, ◌∙◌, arith}
use Rattle.txn_books.proofs.Common.{rules, Ordering, Less, IsTotalOrder, tied_itself, nat_cmp, eq_by_cmp, is_eq, is_lt, AllByRecursion, is_sorted, below_all}
use Rattle.txn_books.proofs.Common.{nat_cmp-IsAntisymmetric, CmpEqualImpliesEq, tells_apart, below_first, below_rest, sorted_first, sorted_rest, is_lt-nat_cmp}
use Rattle.std.specs.Cmp.{both_ways}
use Rattle.std.specs.FinMap.Entries.{find}
use Rattle.txn_tree_map.proofs.Held.Entries.{lower, tied, untied}

-- what a truth says as a test
pub holds : (b : Bool) → T b → b ≡ true
holds true h = refl
holds false h = absurd h

pub less_than : (x y : ℕ) → nat_cmp x y ≡ Less → x < y
less_than x y e = let test : nat_lt x y ≡ true = is_lt-nat_cmp x y ∙ ap is_lt e in grind (arith, rules, test)

-- keys below a number, and keys from it on
abbrev pub AreBelow : ℕ → List (ℕ × ℕ) → Type 0
AreBelow n es = AllByRecursion (λ e. e.0 < n) es

abbrev pub AreFrom : ℕ → List (ℕ × ℕ) → Type 0
AreFrom n es = AllByRecursion (λ e. n ≤ e.0) es

-- a key that no entry has
pub find_none : (q : ℕ) (es : List (ℕ × ℕ)) → AllByRecursion (λ e. q ≢ e.0) es → find nat_cmp q es ≡ None
find_none q [] h = refl
find_none q (e ∷ es) h = grind (rules, untied q e.0 h.0, find_none q es h.1)

pub find_past : (q : ℕ) (xs ys : List (ℕ × ℕ)) → find nat_cmp q xs ≡ None → find nat_cmp q (xs ++ ys) ≡ find nat_cmp q ys
find_past q [] ys h = refl
find_past q (e ∷ xs) ys h = grind (rules, find_past q xs ys)

pub find_front : (q : ℕ) (xs ys : List (ℕ × ℕ)) → find nat_cmp q ys ≡ None → find nat_cmp q (xs ++ ys) ≡ find nat_cmp q xs
find_front q [] ys h = h
find_front q (e ∷ xs) ys h = ap (λ o. cond (eq_by_cmp nat_cmp q e.0) (Some e.1) o) (find_front q xs ys h)

-- keys in order below a number, and then keys in order from it on
all_below : (x n : ℕ) (ys : List (ℕ × ℕ)) → x < n → AreFrom n ys → below_all nat_cmp x ys ≡ true
all_below x n [] lt h = refl
all_below x n (e ∷ ys) lt h = grind (rules, lower x e.0 (omega (arith, lt, h.0)), all_below x n ys lt h.1)

below_append : (x n : ℕ) (xs ys : List (ℕ × ℕ)) → x < n → AreFrom n ys → below_all nat_cmp x xs ≡ true → below_all nat_cmp x (xs ++ ys) ≡ true
below_append x n [] ys lt from h = all_below x n ys lt from
below_append x n (e ∷ xs) ys lt from h = grind (rules, below_append x n xs ys lt from, h)

pub sorted_append : (n : ℕ) (xs ys : List (ℕ × ℕ)) → AreBelow n xs → AreFrom n ys → is_sorted nat_cmp xs ≡ true
    → is_sorted nat_cmp ys ≡ true → is_sorted nat_cmp (xs ++ ys) ≡ true
sorted_append n [] ys below from h k = k
sorted_append n (e ∷ xs) ys below from h k = grind (rules, below_append e.0 n xs ys below.0 from, sorted_append n xs ys below.1 from, h, k)

-- the entries under other keys
abbrev pub keyed : {K : Type 0} → (K → ℕ) → List (K × ℕ) → List (ℕ × ℕ)
keyed f es = map (λ e. (f e.0, e.1)) es

-- what holds of each key holds of each other key
pub all_keyed : {K : Type 0} (f : K → ℕ) (P : K → Type 0) (Q : ℕ → Type 0) → ((k : K) → P k → Q (f k))
    → (es : List (K × ℕ)) → AllByRecursion (λ e. P e.0) es → AllByRecursion (λ e. Q e.0) (keyed f es)
all_keyed f P Q step [] h = tt
all_keyed f P Q step (e ∷ es) h = (step e.0 h.0, all_keyed f P Q step es h.1)

module _ {K : Type 0} {R : K → K → Ordering} (f : K → ℕ) (P : K → Type 0) where
  module _ (rises : (x y : K) → P x → P y → R x y ≡ Less → f x < f y) where
    below_keyed : (x : K) → P x → (es : List (K × ℕ)) → AllByRecursion (λ e. P e.0) es → T (below_all R x es) → below_all nat_cmp (f x) (keyed f es) ≡ true
    below_keyed x p [] h below = refl
    below_keyed x p (e ∷ es) h below =
        grind (rules, lower (f x) (f e.0) (rises x e.0 p h.0 (below_first R x e es below)), below_keyed x p es h.1 (below_rest R x e es below))

    pub sorted_keyed : (es : List (K × ℕ)) → AllByRecursion (λ e. P e.0) es → T (is_sorted R es) → is_sorted nat_cmp (keyed f es) ≡ true
    sorted_keyed [] h sorted = refl
    sorted_keyed (e ∷ es) h sorted = grind (rules, below_keyed e.0 h.0 es h.1 (sorted_first R e es sorted), sorted_keyed es h.1 (sorted_rest R e es sorted))

  module _ (total : IsTotalOrder R) (exact : CmpEqualImpliesEq R) (differs : (x y : K) → P x → P y → f x ≡ f y → x ≡ y) where
    alike : (x y : K) → P x → P y → eq_by_cmp nat_cmp (f x) (f y) ≡ eq_by_cmp R x y
    alike x y p q = both_ways (eq_by_cmp nat_cmp (f x) (f y)) (eq_by_cmp R x y)
        (λ e. ap (λ z. eq_by_cmp R x z) (sym (differs x y p q (tells_apart nat_cmp-IsAntisymmetric (f x) (f y) e))) ∙ ap is_eq (tied_itself total x))
        (λ e. tied (f x) (f y) (ap f (tells_apart exact x y e)))

    -- an entry is found under its other key
    pub find_keyed : (q : K) → P q → (es : List (K × ℕ)) → AllByRecursion (λ e. P e.0) es → find nat_cmp (f q) (keyed f es) ≡ find R q es
    find_keyed q p [] h = refl
    find_keyed q p (e ∷ es) h =
        ap (λ b. cond b (Some e.1) (find nat_cmp (f q) (keyed f es))) (alike q e.0 p h.0)
        ∙ ap (λ o. cond (eq_by_cmp R q e.0) (Some e.1) o) (find_keyed q p es h.1)
