-- Sums over the numbers of parts, one of which may change.
use Rattle.order_match.proofs.Common.{◌≡◌, ◌≢◌, ℕ, zero, suc, ◌+◌, ◌<◌, ◌≤◌, Bool, cond, ◌==◌, List, ◌∷◌, map, refl, sym, ap, arith, eq-eqb, ne_eqb, dite}
use Rattle.order_match.proofs.Common.{ℕ_discrete, range_with_len, sum_by, sum_by-cons, Blocks, times_of}
use Rattle.std.specs.List.{count_by}
use Rattle.std.specs.FinSet as set

-- numbers from one on: if two functions agree, and if they differ at one
pub sum_alike : (a n : ℕ) (f g : ℕ → ℕ) → ((u : ℕ) → a ≤ u → f u ≡ g u) → sum_by f (range_with_len a n) ≡ sum_by g (range_with_len a n)
sum_alike a zero f g same = refl
sum_alike a (suc n) f g same =
    let here : f a ≡ g a = same a (omega arith) in
    let rest = sum_alike (a + 1) n f g (λ u le. same u (omega (arith, le))) in
    omega (arith, here, rest, sum_by-cons f a (range_with_len (a + 1) n), sum_by-cons g a (range_with_len (a + 1) n))

pub sum_changed : (a n t : ℕ) (f g : ℕ → ℕ) → ((u : ℕ) → u ≢ t → f u ≡ g u) → a ≤ t → t < a + n
    → sum_by f (range_with_len a n) + g t ≡ sum_by g (range_with_len a n) + f t
sum_changed a zero t f g same low high = absurd (omega (arith, low, high))
sum_changed a (suc n) t f g same low high =
    let first = sum_by-cons f a (range_with_len (a + 1) n) in
    let second = sum_by-cons g a (range_with_len (a + 1) n) in
    dite (ℕ_discrete t a)
    (λ e.
    let rest = sum_alike (a + 1) n f g (λ u le. same u (λ here. omega (arith, here, e, le))) in
    let fe : f t ≡ f a = ap f e in
    let ge : g t ≡ g a = ap g e in
    omega (arith, first, second, rest, fe, ge))
    (λ ne.
    let rest = sum_changed (a + 1) n t f g same (omega (arith, low, ne)) (omega (arith, high)) in
    let here : f a ≡ g a = same a (λ e. ne (sym e)) in
    omega (arith, first, second, rest, here))

-- of the parts that have numbers from 0 to n
abbrev pub total : ℕ → (ℕ → ℕ) → ℕ
total n f = f 0 + sum_by (λ t. f (suc t)) (range_with_len 0 n)

pub total_changed : (n i : ℕ) (f g : ℕ → ℕ) → i ≤ n → ((j : ℕ) → j ≢ i → f j ≡ g j) → total n f + g i ≡ total n g + f i
total_changed n zero f g le same =
    let rest = sum_alike 0 n (λ t. f (suc t)) (λ t. g (suc t)) (λ u low. same (suc u) (λ e. omega (arith, e))) in
    omega (arith, rest)
total_changed n (suc t) f g le same =
    let rest = sum_changed 0 n t (λ u. f (suc u)) (λ u. g (suc u)) (λ u ne. same (suc u) (λ e. ne (omega (arith, e)))) (omega arith) (omega (arith, le)) in
    let first : f 0 ≡ g 0 = same 0 (λ e. omega (arith, e)) in
    omega (arith, rest, first)

sum_has : (a n t : ℕ) (f : ℕ → ℕ) → a ≤ t → t < a + n → f t ≤ sum_by f (range_with_len a n)
sum_has a zero t f low high = absurd (omega (arith, low, high))
sum_has a (suc n) t f low high =
    let first = sum_by-cons f a (range_with_len (a + 1) n) in
    dite (ℕ_discrete t a)
    (λ e. let fe : f t ≡ f a = ap f e in omega (arith, first, fe))
    (λ ne. omega (arith, first, sum_has (a + 1) n t f (omega (arith, low, ne)) (omega (arith, high))))

pub total_has : (n j : ℕ) (f : ℕ → ℕ) → j ≤ n → f j ≤ total n f
total_has n zero f le = omega arith
total_has n (suc t) f le = omega (arith, sum_has 0 n t (λ u. f (suc u)) (omega arith) (omega (arith, le)))

-- two of them together are no more than all
pub total_has_two : (n i j : ℕ) (f : ℕ → ℕ) → i ≤ n → j ≤ n → j ≢ i → f i + f j ≤ total n f
total_has_two n i j f le below ne =
    let changed = total_changed n i f (λ k. cond (k == i) 0 (f k)) le (λ k apart. sym (elsewhere k apart)) in
    let gone : cond (i == i) 0 (f i) ≡ 0 = ap (λ b. cond b 0 (f i)) (eq-eqb i i refl) in
    let kept : cond (j == i) 0 (f j) ≡ f j = elsewhere j ne in
    let has = total_has n j (λ k. cond (k == i) 0 (f k)) below in
    omega (arith, changed, gone, kept, has)
  where
    elsewhere : (k : ℕ) → k ≢ i → cond (k == i) 0 (f k) ≡ f k
    elsewhere k apart = ap (λ b. cond b 0 (f k)) (ne_eqb k i apart)

pub sum_none : (a n : ℕ) (f : ℕ → ℕ) → ((t : ℕ) → a ≤ t → t < a + n → f t ≡ 0) → sum_by f (range_with_len a n) ≡ 0
sum_none a zero f none = refl
sum_none a (suc n) f none =
    let here : f a ≡ 0 = none a (omega arith) (omega arith) in
    let rest = sum_none (a + 1) n f (λ t low high. none t (omega (arith, low)) (omega (arith, high))) in
    omega (arith, here, rest, sum_by-cons f a (range_with_len (a + 1) n))

pub total_none : (n : ℕ) (f : ℕ → ℕ) → ((i : ℕ) → i ≤ n → f i ≡ 0) → total n f ≡ 0
total_none n f none =
    let first : f 0 ≡ 0 = none 0 (omega arith) in
    let rest = sum_none 0 n (λ t. f (suc t)) (λ t low high. none (suc t) (omega (arith, high))) in
    omega (arith, first, rest)

pub count_first : {X : Type 0} (p : X → Bool) (x : X) (xs : List X) → count_by p (x ∷ xs) ≡ cond (p x) 1 0 + count_by p xs
count_first p x xs = sum_by-cons (λ y. cond (p y) 1 0) x xs

-- how many sets of a family have a block
pub count_sum : (a n b : ℕ) (used : ℕ → Blocks) → count_by (λ s. set.contains s b) (map used (range_with_len a n))
    ≡ sum_by (λ t. times_of (used t) b) (range_with_len a n)
count_sum a zero b used = refl
count_sum a (suc n) b used =
    omega (
      arith,
      count_sum (a + 1) n b used,
      sum_by-cons (λ t. times_of (used t) b) a (range_with_len (a + 1) n),
      count_first (λ s. set.contains s b) (used a) (map used (range_with_len (a + 1) n)),
    )

-- a sum over the sets of a family
pub sum_map : (a n : ℕ) (used : ℕ → Blocks) (f : Blocks → ℕ) (g : ℕ → ℕ) → ((t : ℕ) → a ≤ t → t < a + n → f (used t) ≡ g t)
    → sum_by f (map used (range_with_len a n)) ≡ sum_by g (range_with_len a n)
sum_map a zero used f g same = refl
sum_map a (suc n) used f g same =
    let here : f (used a) ≡ g a = same a (omega arith) (omega arith) in
    let rest = sum_map (a + 1) n used f g (λ t low high. same t (omega (arith, low)) (omega (arith, high))) in
    omega (arith, here, rest, sum_by-cons f (used a) (map used (range_with_len (a + 1) n)), sum_by-cons g a (range_with_len (a + 1) n))
