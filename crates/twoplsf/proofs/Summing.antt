-- Sums over the entries of a map, in the order of their keys.
use Rattle.twoplsf.proofs.Common.{◌≡◌, ℕ, ◌+◌, ◌*◌, ◌≤◌, Bool, true, false, List, length, Some, ap, ◌∙◌, arith, is_lt, nat_cmp_total, ClearingBooks, up_to}
use Rattle.books_model.proofs.Common.{AreInRange}
use Rattle.script_reader.proofs.Common.{positions_total}
use Rattle.input_maker.proofs.Common.{exact_positions, AllByRecursion-weaker, All-entries, sum_by-most}
use Rattle.std.proofs.Common.{cond, T, filter}
use Rattle.std.specs.List.{AllByRecursion, find, sum_by}
use Rattle.std.specs.Cmp.{IsTotalOrder}
use Rattle.std.specs.declared.cmp.Ordering.{Ordering}
use Rattle.std.specs.FinMap.Entries.{is_sorted}
use Rattle.std.proofs.lemmas.List.Sums.{sum_by_push}
use Rattle.std.proofs.lemmas.Map.Lookups.{exact_unsigned}
use Rattle.books_model.specs.declared.limits.TheConstants.{MOST_BLOCKS, GREATEST_CASH, GREATEST_QUANTITY}
use Rattle.books_model.proofs.Maps.Entries.{sum_by-filter}
use Rattle.books_report.proofs.Walking.Walks.{up_to-next}
use Rattle.std.specs.FinMap as map

-- what some of the terms add up to is no more than all of them could
sum_of_some : {X : Type 0} (p : X → Bool) (f : X → ℕ) (most : ℕ) (xs : List X) → AllByRecursion (λ x. f x ≤ most) xs → sum_by f (filter p xs) ≤ length xs * most
sum_of_some {X} p f most xs all =
    let few = sum_by-most (λ x. cond (p x) (f x) 0) most xs
    (AllByRecursion-weaker (λ x. f x ≤ most) (λ x. cond (p x) (f x) 0 ≤ most) (λ x h. chosen (p x) (f x) h) xs all) in
    omega (arith, few, sum_by-filter p f xs)
  where
    chosen : (b : Bool) (n : ℕ) → n ≤ most → cond b n 0 ≤ most
    chosen true n h = h
    chosen false n h = omega arith

-- the sum up to a key is one term more than that up to the key before it
pub summed_next : {K : Type 0} {R : K → K → Ordering} (o : IsTotalOrder R) (later : K → K → Bool) (is : (a b : K)
    → later a b ≡ is_lt (R a b)) (last : K) (es : List (K × ℕ)) (e : K × ℕ)
    → T (is_sorted R es) → find (λ x. later last x.0) es ≡ Some e → sum_by (λ x. x.1) (up_to later e.0 es) ≡ sum_by (λ x. x.1) (up_to later last es) + e.1
summed_next o later is last es e sorted found =
    ap (λ xs. sum_by (λ x. x.1) xs) (up_to-next o later is last es e sorted found) ∙ sum_by_push (λ x. x.1) (up_to later last es) e

-- the cash of some accounts
pub some_cash : (books : ClearingBooks) (p : ℕ × ℕ → Bool) → AreInRange books
    → sum_by (λ e. e.1) (filter p (map.entries books.accounts)) ≤ MOST_BLOCKS * GREATEST_CASH
some_cash books p h =
    let each = All-entries nat_cmp_total exact_unsigned (λ e. e.1 ≤ GREATEST_CASH) books.accounts (λ a cash there. (h.accounts a cash there).1) in
    let some = sum_of_some p (λ e. e.1) GREATEST_CASH (map.entries books.accounts) each in
    let count : length (map.entries books.accounts) ≤ MOST_BLOCKS = omega (arith, h.blocks_used, h.blocks, map.len-entries books.accounts) in
    omega arith

-- what some positions hold
pub some_quantity : (books : ClearingBooks) (p : (ℕ × ℕ) × ℕ → Bool) → AreInRange books
    → sum_by (λ e. e.1) (filter p (map.entries books.positions)) ≤ MOST_BLOCKS * GREATEST_QUANTITY
some_quantity books p h =
    let each = All-entries positions_total exact_positions (λ e. e.1 ≤ GREATEST_QUANTITY) books.positions
    (λ k quantity there. (h.positions k.0 k.1 quantity there).2.1) in
    let some = sum_of_some p (λ e. e.1) GREATEST_QUANTITY (map.entries books.positions) each in
    let count : length (map.entries books.positions) ≤ MOST_BLOCKS = omega (arith, h.blocks_used, h.blocks, map.len-entries books.positions) in
    omega arith
