-- Sums over the uses of calls.
use Rattle.order_rebuild.proofs.Common.{◌≡◌, ℕ, zero, suc, ◌+◌, ◌<◌, Bool, true, false, ◌==◌, ⊎_elim, List, [], ◌∷◌, slice_get, Some, refl, arith, cases_Bool}
use Rattle.order_rebuild.proofs.Common.{eqb-true, sum_by-cons, flag, LockUse, Spot, use_key, is_of, is_at}
use Rattle.std.proofs.Common.{◌&&◌}
use Rattle.std.proofs.lemmas.Bool.{eq-eqb}
use Rattle.order_rebuild.proofs.UseCounts.{count_uses, count_all}

-- one use more in front
pub uses_cons : (f : LockUse → Bool) (u : LockUse) (us : List LockUse) → count_uses f (u ∷ us) ≡ flag (f u) + count_uses f us
uses_cons f u us = sum_by-cons (λ (w : LockUse). flag (f w)) u us

pub all_cons : (f : LockUse → Bool) (s : Spot) (list : List Spot) → count_all f (s ∷ list) ≡ count_uses f s.uses + count_all f list
all_cons f s list = sum_by-cons (λ (x : Spot). count_uses f x.uses) s list

-- none is f
pub uses_none : (f : LockUse → Bool) (us : List LockUse)
    → ((j : ℕ) (u : LockUse) → slice_get us j ≡ Some u → f u ≡ true → ⊥) → count_uses f us ≡ 0
uses_none f [] h = refl
uses_none f (u ∷ us) h =
    let rest = uses_none f us (λ j w e. h (suc j) w e) in
    ⊎_elim (λ e. absurd (h 0 u refl e))
    (λ e. let z : flag (f u) ≡ 0 = rw e refl in omega (arith, rest, z, uses_cons f u us))
    (cases_Bool (f u))

-- some is
pub uses_some : (f : LockUse → Bool) (us : List LockUse) (j : ℕ) (u : LockUse) → slice_get us j ≡ Some u → f u ≡ true
    → 0 < count_uses f us
uses_some f [] j u e t = absurd (cc)
uses_some f (w ∷ us) zero u e t =
    let same : w ≡ u = cc in
    let z : flag (f w) ≡ 1 = rw (same, t) refl in omega (arith, z, uses_cons f w us)
uses_some f (w ∷ us) (suc j) u e t = let rest = uses_some f us j u e t in omega (arith, rest, uses_cons f w us)

-- keys, by what the tests say
pub of_is : (k : ℕ) (u : LockUse) → is_of k u ≡ true → u.lock ≡ k
of_is k u e = eqb-true u.lock k e

pub is_of_is : (k : ℕ) (u : LockUse) → u.lock ≡ k → is_of k u ≡ true
is_of_is k u e = eq-eqb u.lock k e

pub and_both : (a b : Bool) → (a && b) ≡ true → (a ≡ true) × (b ≡ true)
and_both true b e = (refl, e)
and_both false b e = absurd (cc)

both_and : (a b : Bool) → a ≡ true → b ≡ true → (a && b) ≡ true
both_and a b e f = rw (e, f) refl

pub is_at_is : (k key : ℕ) (u : LockUse) → u.lock ≡ k → use_key u ≡ key → is_at k key u ≡ true
is_at_is k key u e l = both_and (is_of k u) (use_key u == key) (is_of_is k u e) (eq-eqb (use_key u) key l)
