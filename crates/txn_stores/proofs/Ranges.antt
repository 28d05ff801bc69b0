-- The numbers of a range, each once.
use Rattle.txn_stores.proofs.Common.{◌≡◌, ◌≢◌, ℕ, ◌+◌, ◌<◌, ◌≤◌, ◌==◌, Bool, true, false, cond, refl, sym, ap, ◌∙◌, arith, rules, zero-add, dite, ℕ_discrete}
use Rattle.txn_stores.proofs.Common.{count_by, range_with_len, sum_by-cons, IsIn}
use Rattle.std.proofs.Common.{zero, suc, nat_eq}
use Rattle.std.specs.List.{All, AllByRecursion, IsDistinct, list_any}
use Rattle.std.specs.FinSet.{contains-from_list_nat}
use Rattle.std.proofs.lemmas.Bool.Decides.{nat_tests}
use Rattle.std.proofs.lemmas.List.FromFn.{get_or-range_with_len, length-range_with_len}
use Rattle.std.proofs.lemmas.Map.Keys.{IsDistinct-cons}
use Rattle.std.proofs.lemmas.Option.{get_or_from_slice_get, slice_get_within}
use Rattle.txn_alloc.specs.Laying.{IsAmong}

-- each is below the end
pub all_below : (n : ℕ) → All (λ b. b < n) (range_with_len 0 n)
all_below n i d lt =
    let there : i < n = omega (arith, lt, length-range_with_len 0 n) in
    let same = get_or-range_with_len 0 n i d there in
    omega (arith, there, same)

pub in_range : (n i : ℕ) → IsIn i (range_with_len 0 n) → i < n
in_range n i (k, e) =
    let lt : k < n = omega (arith, slice_get_within (range_with_len 0 n) k i e, length-range_with_len 0 n) in
    let is : 0 + k ≡ i = sym (get_or-range_with_len 0 n k 0 lt) ∙ get_or_from_slice_get (range_with_len 0 n) k i 0 e in
    omega (arith, lt, is)

-- no two are the same
above_differ : (c a n : ℕ) → c < a → AllByRecursion (λ y. nat_eq c y ≡ false) (range_with_len a n)
above_differ c a zero lt = tt
above_differ c a (suc n) lt = (let ne : c ≢ a = λ e. omega (arith, lt, e) in grind (rules, ne), above_differ c (a + 1) n (omega (arith, lt)))

pub all_once : (a n : ℕ) → IsDistinct nat_eq (range_with_len a n)
unfolding IsDistinct
all_once a zero = tt
all_once a (suc n) = IsDistinct-cons nat_eq a (range_with_len (a + 1) n) (above_differ a (a + 1) n (omega arith)) (all_once (a + 1) n)

-- a number below the end stands there
any_there : (b a n : ℕ) → a ≤ b → b < a + n → list_any (λ y. nat_eq y b) (range_with_len a n) ≡ true
any_there b a zero le lt = absurd (omega (arith, le, lt))
any_there b a (suc n) le lt = dite (ℕ_discrete a b)
    (λ e. grind (rules, e))
    (λ ne. let rest : list_any (λ y. nat_eq y b) (range_with_len (a + 1) n) ≡ true =
    any_there b (a + 1) n (omega (arith, le, ne)) (omega (arith, lt)) in grind (rules, ne, rest))

pub all_among : (n b : ℕ) → b < n → IsAmong (range_with_len 0 n) b
all_among n b lt = contains-from_list_nat (range_with_len 0 n) b ∙ any_there b 0 n (omega arith) (omega (arith, lt))

-- and does so once
range_none : (a n i : ℕ) → i < a → count_by (λ m. m == i) (range_with_len a n) ≡ 0
range_none a zero i lt = refl
range_none a (suc n) i lt = grind (arith, nat_tests, lt, range_none (a + 1) n i (omega (arith, lt)))

pub range_once : (a n i : ℕ) → a ≤ i → i < a + n → count_by (λ m. m == i) (range_with_len a n) ≡ 1
range_once a zero i le lt = absurd (omega (arith, le, lt))
range_once a (suc n) i le lt = at (a == i) refl (λ past. range_once (a + 1) n i past (omega (arith, lt)))
  where
    at : (b : Bool) → (a == i) ≡ b → (a + 1 ≤ i → count_by (λ m. m == i) (range_with_len (a + 1) n) ≡ 1)
        → count_by (λ m. m == i) (range_with_len a (suc n)) ≡ 1
    at true is rest =
        sum_by-cons (λ m. cond (m == i) 1 0) a (range_with_len (a + 1) n)
        ∙ ap (λ b. cond b 1 0 + count_by (λ m. m == i) (range_with_len (a + 1) n)) is
        ∙ ap (λ k. 1 + k) (range_none (a + 1) n i (grind (arith, nat_tests, is)))
    at false is rest =
        let past : a + 1 ≤ i = grind (arith, nat_tests, is, le) in
        sum_by-cons (λ m. cond (m == i) 1 0) a (range_with_len (a + 1) n)
        ∙ ap (λ b. cond b 1 0 + count_by (λ m. m == i) (range_with_len (a + 1) n)) is
        ∙ zero-add (count_by (λ m. m == i) (range_with_len (a + 1) n)) ∙ rest past
