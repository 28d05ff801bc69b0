-- Sums of weights that are all the same, and how many entries a map has at most.
use Rattle.input_maker.proofs.Common.{◌≡◌, ◌≢◌, ℕ, zero, suc, ◌+◌, ◌*◌, ◌<◌, ◌≤◌, ◌==◌, ◌&&◌, Bool, true, false, cond, List, [], ◌∷◌, Option, Some, None}
use Rattle.input_maker.proofs.Common.{sum_by, inl, inr, refl, sym, ap, ◌∙◌, true≢false, arith, Ordering, nat_cmp_total, nat_cmp, eq_by_cmp, ne_eqb, sum_by-cons}
use Rattle.input_maker.proofs.Common.{exact_unsigned, position_cmp, positions_total, exact_positions, AllByRecursion-weaker, All-entries, weigh, sums}
use Rattle.std.proofs.Common.{count_by}
use Rattle.std.specs.Cmp.{IsTotalOrder, tied_itself}
use Rattle.std.specs.Ordering.{is_eq}
use Rattle.std.proofs.lemmas.Bool.Decides.{eqb_tells}
use Rattle.std.proofs.lemmas.Map.Lookups.{CmpEqualImpliesEq}
use Rattle.books_model.proofs.Maps.Entries.{sum_by-one}
use Rattle.script_reader.proofs.Conditions.{count_always}
use Rattle.books_report.proofs.Order.Classes.{by_classes}
use Rattle.std.specs.FinMap as map

-- what those weigh that pass a test, if each of them weighs the same
pub same_weight : {A : Type 0} (t : A → Bool) (w : A → ℕ) (d : ℕ) (xs : List A) → ((x : A) → t x ≡ true → w x ≡ d)
    → sum_by (λ x. cond (t x) (w x) 0) xs ≡ count_by t xs * d
same_weight t w d [] each = omega arith
same_weight t w d (x ∷ xs) each =
    sum_by-cons (λ y. cond (t y) (w y) 0) x xs
    ∙ one_more (t x) (w x) (sum_by (λ y. cond (t y) (w y) 0) xs) (count_by t xs) (each x) (same_weight t w d xs each)
    ∙ ap (λ n. n * d) (sym (sum_by-cons (λ y. cond (t y) 1 0) x xs))
  where
    one_more : (b : Bool) (v s n : ℕ) → (b ≡ true → v ≡ d) → s ≡ n * d → cond b v 0 + s ≡ (cond b 1 0 + n) * d
    one_more true v s n is rest = let e = is refl in omega arith
    one_more false v s n is rest = omega arith

-- the sum of numbers that are at most some number
sums-most : (k most : ℕ) (g : ℕ → ℕ) → ((i : ℕ) → g i ≤ most) → sums k g ≤ k * most
sums-most zero most g each = omega arith
sums-most (suc k) most g each = let s : suc k * most ≡ k * most + most = omega arith in omega (arith, s, sums-most k most g each, each k)

module _ {K : Type 0} {R : K → K → Ordering} (o : IsTotalOrder R) where
  -- keys that an order tells apart differ
  differ : (q k : K) → eq_by_cmp R q k ≡ false → q ≢ k
  differ q k apart same = true≢false (sym (ap (λ p. eq_by_cmp R q p) (sym same) ∙ ap is_eq (tied_itself o q)) ∙ apart)

  -- a test that one key alone passes is passed by one entry at most
  once_found : (exact : CmpEqualImpliesEq R) (t : K → Bool) (m : map.FinMap R ℕ) (k : K)
      → ((q : K) → q ≢ k → t q ≡ false) → count_by (λ e. t e.0) (map.entries m) ≤ 1
  once_found exact t m k apart =
      let one = sum_by-one o exact (λ e. cond (t e.0) 1 0) m k (λ q v tied. ap (λ b. cond b 1 0) (apart q (differ q k tied))) in
      omega (arith, one, most (map.get m k))
    where
      bit : (b : Bool) → cond b 1 0 ≤ 1
      bit true = omega arith
      bit false = omega arith

      most : (x : Option ℕ) → weigh (λ (e : K × ℕ). cond (t e.0) 1 0) k x ≤ 1
      most None = omega arith
      most (Some v) = bit (t k)

-- a map whose keys are numbers below some number has at most so many entries
pub numbers_most : (n : ℕ) (m : map.FinMap nat_cmp ℕ) → ((q v : ℕ) → map.get m q ≡ Some v → q < n) → map.len m ≤ n
numbers_most n m below =
    let es = map.entries m in
    let split = by_classes (λ e. true) (λ e. e.0) n es (AllByRecursion-weaker (λ e. e.0 < n) (λ e. true ≡ true
    → e.0 < n) (λ e less _. less) es (All-entries nat_cmp_total exact_unsigned (λ e. e.0 < n) m below)) in
    omega (
      arith,
      map.len-entries m,
      count_always es,
      split,
      sums-most n 1 (λ i. count_by (λ e. e.0 == i) es) (λ i. once_found nat_cmp_total exact_unsigned (λ q. q == i) m i (λ q. ne_eqb q i)),
    )

-- and one whose keys are pairs, as many as there are pairs
pub pairs_most : (n l : ℕ) (m : map.FinMap position_cmp ℕ) → ((q : ℕ × ℕ) (v : ℕ) → map.get m q ≡ Some v → (q.0 < n) × (q.1 < l)) → map.len m ≤ n * l
pairs_most n l m below =
    let es = map.entries m in
    let all = All-entries positions_total exact_positions (λ e. (e.0.0 < n) × (e.0.1 < l)) m below in
    let first = by_classes (λ e. true) (λ e. e.0.0) n es (AllByRecursion-weaker (λ e. (e.0.0 < n)
    × (e.0.1 < l)) (λ e. true ≡ true → e.0.0 < n) (λ e h _. h.0) es all) in
    let each : (a : ℕ) → count_by (λ e. e.0.0 == a) es ≤ l = λ a.
    let second = by_classes (λ e. e.0.0 == a) (λ e. e.0.1) l es (AllByRecursion-weaker (λ e. (e.0.0 < n)
    × (e.0.1 < l)) (λ e. (e.0.0 == a) ≡ true → e.0.1 < l) (λ e h _. h.1) es all) in
    omega (
      arith,
      second,
      sums-most l 1 (λ i. count_by (λ e. e.0.0 == a && e.0.1 == i) es)
          (λ i. once_found positions_total exact_positions (λ q. q.0 == a && q.1 == i) m (a, i) (other_pair (a, i))),
    ) in
    omega (arith, map.len-entries m, count_always es, first, sums-most n l (λ a. count_by (λ e. e.0.0 == a) es) each)
  where
    other_pair : (k q : ℕ × ℕ) → q ≢ k → (q.0 == k.0 && q.1 == k.1) ≡ false
    other_pair k q apart = elim (eqb_tells q.0 k.0) [
      | inl same ↦ ap (λ b. b && q.1 == k.1) same.0 ∙ ne_eqb q.1 k.1 (λ e. apart (λ t. (same.1 t, e t)))
      | inr other ↦ ap (λ b. b && q.1 == k.1) other.0
    ]
