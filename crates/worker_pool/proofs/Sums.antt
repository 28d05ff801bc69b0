-- Sums over all views of a table, if one view changes, and if one view has all; and a count as such a sum.
use Rattle.worker_pool.proofs.Common.{◌≡◌, ℕ, zero, suc, ◌+◌, ◌<◌, ◌≤◌, ◌==◌, if◌then◌else◌, List, [], ◌∷◌, set, length, get_or, sym, refl, ap, subst, arith}
use Rattle.worker_pool.proofs.Common.{sum_by, sum_by-cons, sum_by-set, times, some, get_elem?}
use mathlib.Core.Option.{some-injective, some-ne-none}

module _ {X : Type 0} where
  stands : (xs : List X) (i : ℕ) (v : X) → get_elem? xs i ≡ some v → (i < length xs) × (get_or xs i v ≡ v)
  stands [] i v at = absurd (some-ne-none v (sym at))
  stands (x ∷ xs) zero v at = (omega arith, some-injective x v at)
  stands (x ∷ xs) (suc i) v at = let there = stands xs i v at in (omega (arith, there.0), there.1)

  pub sum_at_set : (f : X → ℕ) (views : List X) (i : ℕ) (v w : X) → get_elem? views i ≡ some v
      → sum_by f (set views i w) + f v ≡ sum_by f views + f w
  sum_at_set f views i v w at =
      let there = stands views i v at in
      subst (λ (u : X). sum_by f (set views i w) + f u ≡ sum_by f views + f w) there.1 (sum_by-set f views i w v there.0)

  pub at_sum_le : (f : X → ℕ) (views : List X) (i : ℕ) (v : X) → get_elem? views i ≡ some v → f v ≤ sum_by f views
  at_sum_le f [] i v at = absurd (some-ne-none v (sym at))
  at_sum_le f (x ∷ xs) zero v at = let s : f x ≡ f v = ap f (some-injective x v at) in omega (arith, sum_by-cons f x xs, s)
  at_sum_le f (x ∷ xs) (suc i) v at = omega (arith, sum_by-cons f x xs, at_sum_le f xs i v at)

  -- if g is nothing in all views together, so is f, which is nothing if g is
  nothing_at_all : (f g : X → ℕ) → ((u : X) → g u ≡ 0 → f u ≡ 0) → (views : List X) → sum_by g views ≡ 0 → sum_by f views ≡ 0
  nothing_at_all f g none [] e = refl
  nothing_at_all f g none (x ∷ xs) e =
      let c = sum_by-cons g x xs in
      omega (arith, sum_by-cons f x xs, none x (omega (arith, c, e)), nothing_at_all f g none xs (omega (arith, c, e)))

  -- if one view has all of g, it has all of f
  pub alone : (f g : X → ℕ) → ((u : X) → g u ≡ 0 → f u ≡ 0) → (views : List X) (i : ℕ) (v : X) → get_elem? views i ≡ some v
      → sum_by g views ≡ g v → sum_by f views ≡ f v
  alone f g none [] i v at all = absurd (some-ne-none v (sym at))
  alone f g none (x ∷ xs) zero v at all =
      let s : f x ≡ f v = ap f (some-injective x v at) in
      let t : g x ≡ g v = ap g (some-injective x v at) in
      omega (arith, s, sum_by-cons f x xs, nothing_at_all f g none xs (omega (arith, t, all, sum_by-cons g x xs)))
  alone f g none (x ∷ xs) (suc i) v at all =
      let rest = at_sum_le g xs i v at in
      let c = sum_by-cons g x xs in
      omega (arith, sum_by-cons f x xs, none x (omega (arith, rest, c, all)), alone f g none xs i v at (omega (arith, rest, c, all)))

-- how often a number stands in a list with one more in front
pub times_cons : (x y : ℕ) (ys : List ℕ) → times x (y ∷ ys) ≡ (if y == x then 1 else 0) + times x ys
times_cons x y ys = sum_by-cons (λ (z : ℕ). if z == x then 1 else 0) y ys
