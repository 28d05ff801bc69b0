-- Lines that have no fault.
use Rattle.script_reader.proofs.Common.{◌≡◌, ℕ, ◌+◌, ◌<◌, ◌^◌, Bool, true, false, not, ◌&&◌, ◌||◌, ◌==◌, nat_le, nat_lt, if◌then◌else◌, List, [], ◌∷◌, codes}
use Rattle.script_reader.proofs.Common.{drop, length, Some, None, refl, sym, ap, subst, ◌∙◌, arith, list_any, AllByRecursion, lt-leb, lt-ltb, is_none}
use Rattle.script_reader.proofs.Common.{MOST_ALTERNATIVES, MOST_OPERATIONS, ClearingBooks, Op, number, account_words, price_words, position_words, call_words}
use Rattle.script_reader.proofs.Common.{books_operation_words, Region, InScript, value_of, are_numbers, are_in_range, turning_forms, script_forms, form_of}
use Rattle.script_reader.proofs.Common.{ranges_of, first_reason, is_below, inside_fault, fault_of, AreNumbersIn, IsOperationOf, Version}
use Rattle.script_reader.proofs.books.RowRanges.{account_ranges, price_ranges, position_ranges, call_ranges}
use Rattle.script_reader.proofs.text.Tokens.Numerals.{value_of_number}
use Rattle.script_reader.proofs.books.OperationRows.{IsRow, row, no_turning, no_try}
use Rattle.script_reader.proofs.language.Listed.Numbers.{texts_are_numbers, texts_are_in_range}
use Rattle.script_reader.proofs.Conditions.{or_false, is_some_list}
use Rattle.script_reader.proofs.books.Printing.Printed.{Printed, IsSmall, print, reasons, books_fault_is, is_late_in, is_low_in}
use Rattle.script_reader.proofs.books.Printing.Scripted.{in_books}
use Rattle.script_reader.specs.declared.fault.Fault.TheVariants as fault

-- no key of some is at or above one that all are below
pub none_above : {A : Type 0} (f : A → ℕ × ℕ) (key : ℕ × ℕ) (es : List A)
    → AllByRecursion (λ e. is_below (f e) key ≡ true) es → list_any (λ e. not (is_below (f e) key)) es ≡ false
none_above f key [] all = refl
none_above f key (e ∷ es) all = (λ i. not (all.0 i) || list_any (λ e. not (is_below (f e) key)) es) ∙ none_above f key es all.1

-- a number is below another
pub below_number : {x y : ℕ} → x < y → is_below (x, 0) (y, 0) ≡ true
below_number {x} {y} h = ap (λ b. b || ((x == y) && nat_lt 0 0)) (lt-ltb x y h)

-- all of some numbers are below another
pub all_below : (n : ℕ) (es : List (ℕ × ℕ)) → AllByRecursion (λ e. e.0 < n) es → AllByRecursion (λ e. is_below (e.0, 0) (n, 0) ≡ true) es
all_below n [] all = tt
all_below n (e ∷ es) all = (below_number all.0, all_below n es all.1)

module _ {p : Printed} (small : IsSmall p) where
  -- an account behind lower ones, if nothing else is given and a block is left
  pub account_has_none : (e : ℕ × ℕ) → p.prices ≡ [] → p.positions ≡ [] → p.calls ≡ []
      → AreNumbersIn (account_ranges p.version) (e.0 ∷ e.1 ∷ []) → AllByRecursion (λ x. x.0 < e.0) p.accounts → length p.accounts < p.blocks
      → fault_of (print p) (account_words e) ≡ None
  account_has_none e no_prices no_positions no_calls within rises room =
      in_books p (account_words e) ∙ books_fault_is (account_words e) small
      ∙ (λ i. reasons false (late i) (not (texts_are_numbers (account_ranges p.version) (e.0 ∷ e.1 ∷ []) within i))
      (not (texts_are_in_range (account_ranges p.version) (e.0 ∷ e.1 ∷ []) within i) || false)
      (low i) false false (full i))
    where
      late : is_late_in 0 p ≡ false
      late i = is_some_list (no_prices i) || (is_some_list (no_positions i) || is_some_list (no_calls i))

      low : is_low_in 0 (value_of (number e.0), 0) p ≡ false
      low = or_false _ ∙ none_above (λ x. (x.0, 0)) (value_of (number e.0), 0) p.accounts
          (subst (λ n. AllByRecursion (λ x. is_below (x.0, 0) (n, 0) ≡ true) p.accounts)
          (sym (value_of_number within.2)) (all_below e.0 p.accounts rises))

      full : nat_le p.blocks (length p.accounts + length p.prices + length p.positions) ≡ false
      full = lt-leb p.blocks _ (omega (arith, ap length no_prices, ap length no_positions))

  -- a price likewise
  pub price_has_none : (e : ℕ × ℕ) → p.positions ≡ [] → p.calls ≡ []
      → AreNumbersIn (price_ranges p.instruments) (e.0 ∷ e.1 ∷ [])
      → AllByRecursion (λ x. x.0 < e.0) p.prices → length p.accounts + length p.prices < p.blocks
      → fault_of (print p) (price_words e) ≡ None
  price_has_none e no_positions no_calls within rises room =
      in_books p (price_words e) ∙ books_fault_is (price_words e) small
      ∙ (λ i. reasons false (is_some_list (no_positions i) || is_some_list (no_calls i))
      (not (texts_are_numbers (price_ranges p.instruments) (e.0 ∷ e.1 ∷ []) within i))
      (not (texts_are_in_range (price_ranges p.instruments) (e.0 ∷ e.1 ∷ []) within i) || false)
      (low i) false false (full i))
    where
      low : is_low_in 1 (value_of (number e.0), 0) p ≡ false
      low = or_false _ ∙ none_above (λ x. (x.0, 0)) (value_of (number e.0), 0) p.prices
          (subst (λ n. AllByRecursion (λ x. is_below (x.0, 0) (n, 0) ≡ true) p.prices)
          (sym (value_of_number within.2)) (all_below e.0 p.prices rises))

      full : nat_le p.blocks (length p.accounts + length p.prices + length p.positions) ≡ false
      full = lt-leb p.blocks _ (omega (arith, ap length no_positions))

  -- a position likewise, of an account and of an instrument with a price that are given
  pub position_has_none : (e : (ℕ × ℕ) × ℕ) → p.calls ≡ []
      → AreNumbersIn (position_ranges p.instruments) (e.0.0 ∷ e.0.1 ∷ e.1 ∷ [])
      → AllByRecursion (λ x. is_below x.0 e.0 ≡ true) p.positions
      → list_any (λ x. x.0 == e.0.0) p.accounts ≡ true → list_any (λ x. x.0 == e.0.1) p.prices ≡ true
      → length p.accounts + length p.prices + length p.positions < p.blocks
      → fault_of (print p) (position_words e) ≡ None
  position_has_none e no_calls within rises account price room =
      in_books p (position_words e) ∙ books_fault_is (position_words e) small
      ∙ (λ i. reasons false (is_some_list (no_calls i)) (not (texts_are_numbers (position_ranges p.instruments) (e.0.0 ∷ e.0.1 ∷ e.1 ∷ []) within i))
      (not (texts_are_in_range (position_ranges p.instruments) (e.0.0 ∷ e.0.1 ∷ e.1 ∷ []) within i) || false)
      (low i) (not (given i)) (not (priced i)) (lt-leb p.blocks _ room i))
    where
      first : value_of (number e.0.0) ≡ e.0.0
      first = value_of_number within.2

      second : value_of (number e.0.1) ≡ e.0.1
      second = value_of_number within.3.2

      low : is_low_in 2 (value_of (number e.0.0), value_of (number e.0.1)) p ≡ false
      low = (λ i. list_any (λ x. not (is_below x.0 (first i, second i))) p.positions) ∙ none_above (λ x. x.0) e.0 p.positions rises

      given : list_any (λ x. x.0 == value_of (number e.0.0)) p.accounts ≡ true
      given = (λ i. list_any (λ x. x.0 == first i) p.accounts) ∙ account

      priced : list_any (λ x. x.0 == value_of (number e.0.1)) p.prices ≡ true
      priced = (λ i. list_any (λ x. x.0 == second i) p.prices) ∙ price

  -- a margin call, if the queue has room
  pub call_has_none : (e : ℕ × ℕ) → AreNumbersIn call_ranges (e.0 ∷ e.1 ∷ [])
      → length p.calls < p.ring → fault_of (print p) (call_words e) ≡ None
  call_has_none e within room =
      in_books p (call_words e) ∙ books_fault_is (call_words e) small
      ∙ (λ i. reasons false false (not (texts_are_numbers call_ranges (e.0 ∷ e.1 ∷ []) within i))
      (not (texts_are_in_range call_ranges (e.0 ∷ e.1 ∷ []) within i) || lt-leb p.ring (length p.calls) room i)
      false false false false)

  -- and the line behind the books
  pub scripts_has_none : fault_of (print p) (codes "scripts" ∷ []) ≡ None
  scripts_has_none = in_books p (codes "scripts" ∷ []) ∙ books_fault_is (codes "scripts" ∷ []) small

-- an operation has no fault, unless there are too many before it
pub operation_fault : (version : Version) (books : ClearingBooks) → books.instruments < 2 ^ 64 → (region : Region) (count alternatives : ℕ) {full : Bool}
    → nat_le MOST_OPERATIONS count ≡ full → (o : Op) → IsOperationOf version books o
    → inside_fault version region books.instruments count alternatives (books_operation_words o) ≡ (if full then Some fault.Limit else None)
operation_fault version books fits region count alternatives {full} is_full o h =
    (λ i. first_reason (
    (is_none (ap (λ t. t.3) r.2 i), fault.Word)
    ∷ (not (numbers i), fault.Number)
    ∷ (not (ranges i) || (not (no_turning o i) && is_full i || (no_try o i && nat_le MOST_ALTERNATIVES alternatives)), fault.Limit)
    ∷ []
    )) ∙ limit_of full
  where
    r : IsRow version books fits (turning_forms region) o
    r = row version books fits (turning_forms region) o h

    numbers : are_numbers (drop 1 (books_operation_words o)) ≡ true
    numbers = ap (λ t. are_numbers (drop 1 t.0)) r.2 ∙ texts_are_numbers r.0.ranges r.1 r.3

    ranges : are_in_range (drop 1 (books_operation_words o)) (ranges_of (form_of (script_forms version region books.instruments) (books_operation_words o)))
        ≡ true
    ranges = ap (λ t. are_in_range (drop 1 t.0) (ranges_of t.3)) r.2 ∙ texts_are_in_range r.0.ranges r.1 r.3

    limit_of : (b : Bool) → first_reason ((false, fault.Word) ∷ (false, fault.Number) ∷ (b || false, fault.Limit) ∷ [])
        ≡ (if b then Some fault.Limit else None)
    limit_of true = refl
    limit_of false = refl

pub operation_has_none : (version : Version) (books : ClearingBooks) → books.instruments < 2 ^ 64 → (region : Region) (count alternatives : ℕ)
    → count < MOST_OPERATIONS → (o : Op) → IsOperationOf version books o
    → inside_fault version region books.instruments count alternatives (books_operation_words o) ≡ None
operation_has_none version books fits region count alternatives room =
    operation_fault version books fits region count alternatives (lt-leb MOST_OPERATIONS count room)

-- the line that begins an alternative, unless there are too many before it
pub try_fault : (version : Version) (instruments count alternatives : ℕ) {full : Bool} → nat_le MOST_ALTERNATIVES alternatives ≡ full
    → inside_fault version InScript instruments count alternatives (codes "try" ∷ []) ≡ (if full then Some fault.Limit else None)
try_fault version instruments count alternatives is_full i = if is_full i then Some fault.Limit else None
