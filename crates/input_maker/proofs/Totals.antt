-- Sums over the scripts of an input, in whatever order they stand, and over its opening books.
use Rattle.input_maker.proofs.Common.{◌≡◌, ℕ, zero, suc, ◌+◌, ◌*◌, ◌<◌, ◌==◌, ◌&&◌, true, cond, List, [], length, map, get_or, sum_by, refl, sym, ap, subst}
use Rattle.input_maker.proofs.Common.{◌∙◌, arith, flat_map, range_with_len, recursion_from_All, sum_by-cons, script_at, Part, all_cash, Caller, ClearingInput}
use Rattle.input_maker.proofs.Common.{Place, IsJournal, sums-same, by_weights, made_books, all_quantities}
use Rattle.books_report.proofs.Common.{caller_at}
use Rattle.std.proofs.Common.{eqb-true}
use Rattle.std.proofs.lemmas.Bool.{and_parts}
use Rattle.std.proofs.lemmas.List.Sums.{sum_by-append}
use Rattle.books_report.proofs.Order.Classes.{sum_by_all}
use Rattle.input_maker.specs.Made.{accounts_to, positions_in, positions_to}
use Rattle.input_maker.proofs.Opening.{accounts_entries, positions_entries}
use Rattle.input_maker.proofs.Classes.{same_weight}

-- a sum over the scripts of an order is the sum over the callers' scripts
pub sum_of_order : (input : ClearingInput) (w : List Part → ℕ) (order : List Place) → IsJournal input order
    → sum_by (λ p. w (script_at input.callers p.caller p.index)) order ≡ sum_by (λ c. sum_by w c.scripts) input.callers
sum_of_order input w order j =
    by_weights (λ p. true) (λ p. p.caller) at (length input.callers) order
    (recursion_from_All (λ p. true ≡ true → p.caller < length input.callers) order (λ k d less yes. (j.only k d less).0))
    ∙ sums-same (length input.callers) (λ c. sum_by (λ p. cond (p.caller == c) (at p) 0) order) (λ c. sum_by w (caller_at input.callers c).scripts) each
    ∙ sym (sum_by_all (λ (c : Caller). sum_by w c.scripts) (record { name = []; scripts = [] }) input.callers)
  where
    at : Place → ℕ
    at p = w (script_at input.callers p.caller p.index)

    one : (c i : ℕ) → c < length input.callers → i < length (caller_at input.callers c).scripts
        → sum_by (λ p. cond (p.caller == c && p.index == i) (at p) 0) order ≡ w (script_at input.callers c i)
    one c i within less =
        same_weight (λ p. p.caller == c && p.index == i) at (w (script_at input.callers c i)) order
        (λ p both. let parts = and_parts (p.caller == c) (p.index == i) both in
        λ t. w (script_at input.callers (eqb-true p.caller c parts.0 t) (eqb-true p.index i parts.1 t)))
        ∙ ap (λ n. n * w (script_at input.callers c i)) (j.once (record { caller = c; index = i }) (within, less))
        ∙ omega arith

    each : (c : ℕ) → c < length input.callers → sum_by (λ p. cond (p.caller == c) (at p) 0) order ≡ sum_by w (caller_at input.callers c).scripts
    each c within =
        by_weights (λ p. p.caller == c) (λ p. p.index) at (length (caller_at input.callers c).scripts) order
        (recursion_from_All (λ p. (p.caller == c) ≡ true → p.index < length (caller_at input.callers c).scripts) order
        (λ k d less same. subst (λ x. (get_or order k d).index < length (caller_at input.callers x).scripts)
        (eqb-true (get_or order k d).caller c same) (j.only k d less).1))
        ∙ sums-same (length (caller_at input.callers c).scripts)
        (λ i. sum_by (λ p. cond (p.caller == c && p.index == i) (at p) 0) order) (λ i. w (script_at input.callers c i)) (λ i less. one c i within less)
        ∙ sym (sum_by_all w [] (caller_at input.callers c).scripts)

-- a sum over what is made of the numbers of a row, if each adds as much
sum_by-even : {X : Type 0} (f : X → ℕ) (make : ℕ → X) (each : ℕ) → ((k : ℕ) → f (make k) ≡ each) → (a n : ℕ)
    → sum_by f (map make (range_with_len a n)) ≡ n * each
sum_by-even f make each is a zero = omega arith
sum_by-even f make each is a (suc n) = omega (arith, sum_by-cons f (make a) (map make (range_with_len (a + 1) n)), is a, sum_by-even f make each is (a + 1) n)

-- 200 accounts with a million each
pub opening_cash : all_cash made_books ≡ 200000000
unfolding accounts_to
opening_cash = ap (sum_by (λ e. e.1)) accounts_entries ∙ sum_by-even {X = ℕ × ℕ} (λ e. e.1) (λ a. (a, 1000000)) 1000000 (λ a. refl) 1 200

-- what one account holds, and what all hold
one_holds : (a : ℕ) → sum_by (λ e. e.1) (positions_in a 8) ≡ 800
unfolding positions_in
one_holds a = sum_by-even {X = (ℕ × ℕ) × ℕ} (λ e. e.1) (λ i. ((a, i), 100)) 100 (λ i. refl) 1 8

all_hold : (a n : ℕ) → sum_by (λ e. e.1) (flat_map (λ a. positions_in a 8) (range_with_len a n)) ≡ n * 800
all_hold a zero = omega arith
all_hold a (suc n) = omega (
  arith,
  sum_by-append (λ e. e.1) (positions_in a 8) (flat_map (λ a. positions_in a 8) (range_with_len (a + 1) n)),
  one_holds a,
  all_hold (a + 1) n,
)

-- and a hundred of each of 8 instruments
pub opening_quantities : all_quantities made_books ≡ 160000
unfolding positions_to
opening_quantities = ap (sum_by (λ e. e.1)) positions_entries ∙ all_hold 1 200
