-- A line of books to which no reason applies adds to the books.
use Rattle.script_reader.proofs.Common.{lit<, ◌≡◌, ℕ, ◌+◌, ◌<◌, ◌≤◌, ◌^◌, Bool, true, false, not, ◌&&◌, ◌||◌, ◌==◌, nat_le, cond, List, [], ◌∷◌, ◌++◌, codes}
use Rattle.script_reader.proofs.Common.{map, drop, length, Some, None, IsSome, refl, sym, ap, subst, ◌∙◌, arith, list_any, AllByRecursion, nat_cmp_total}
use Rattle.script_reader.proofs.Common.{nat_cmp, is_eq, Ordering, Less, Equal, Greater, find, get-entries, len-entries, leb-false, eqb-true, ranked, none-some}
use Rattle.script_reader.proofs.Common.{nat_tests, ClearingBooks, empty_books, position_cmp, AreInRange, IsWithin, positions_total, bytes_eq, bytes_eq-Decides}
use Rattle.script_reader.proofs.Common.{word_at, is_number, number, header_words, account_words, price_words, position_words, call_words, books_words, is_none}
use Rattle.script_reader.proofs.Common.{GREATEST_CASH, GREATEST_SHORTFALL, greatest_cash, AreBooksWithin, Words, books_forms, begins, form_of, ranges_of}
use Rattle.script_reader.proofs.Common.{value_of, word_value, are_numbers, are_in_range, accounts, prices, quantities, header_fault, header_version, kind_of}
use Rattle.script_reader.proofs.Common.{takes_block, line_key, is_below, Version, Row, IsRow, with_row}
use Rattle.books_model.proofs.Common.{used}
use Rattle.std.specs.FinMap.{len-empty}
use Rattle.std.proofs.lemmas.Bool.{false≢true}
use Rattle.books_model.proofs.InRange.{empty_books-in_range, put_cash-in_range, put_price-in_range, put_quantity-in_range, put_call-in_range, used_after_insert}
use Rattle.books_model.proofs.InRange.{used_after_price, used_after_position}
use Rattle.script_reader.proofs.books.Versions.{blocks_small, cash_small, blocks_within, cash_within, word_of_version}
use Rattle.script_reader.proofs.Conditions.{both, passed, neither, or_false, is_some_list}
use Rattle.script_reader.proofs.LineFaults.LineKinds.{none_applies, ranged}
use Rattle.script_reader.proofs.books.Printing.Printed.{Printed, fault_at, is_late_in, is_low_in}
use Rattle.script_reader.proofs.books.Printing.Sections.{entries_above, absent_above, less_number, less_pair, all_follow}
use Rattle.script_reader.proofs.books.Printing.Growing.{account_more, price_more, position_more, call_more}
use Rattle.script_reader.proofs.books.WithoutFault.BooksFaultless.{printed, instruments_fit}
use Rattle.std.specs.FinMap as finmap
use Rattle.script_reader.specs.declared.fault.Fault.TheVariants as fault
use Rattle.script_reader.specs.declared.books.Row.TheVariants as row

-- a list with no element
pub no_elements : {A : Type 0} (xs : List A) → is_some_list xs ≡ false → xs ≡ []
no_elements [] h = refl
no_elements (x ∷ xs) h = cc

-- if none is not below, all are below
pub all_are_below : {A : Type 0} (f : A → ℕ × ℕ) (key : ℕ × ℕ) (es : List A)
    → list_any (λ e. not (is_below (f e) key)) es ≡ false → AllByRecursion (λ e. is_below (f e) key ≡ true) es
all_are_below f key [] h = tt
all_are_below f key (e ∷ es) h = let parts = neither h in (passed parts.0, all_are_below f key es parts.1)

-- a number that is below another as a key is less
pub below_is_less : {x y : ℕ} → is_below (x, 0) (y, 0) ≡ true → x < y
below_is_less h = grind (arith, nat_tests)

-- the numbers of two words
read_two : (a c : List ℕ) (r s : ℕ × ℕ) → r.1 < 2 ^ 64 → s.1 < 2 ^ 64 → (is_number a && (is_number c && true)) ≡ true
    → ((nat_le r.0 (value_of a) && nat_le (value_of a) r.1) && ((nat_le s.0 (value_of c) && nat_le (value_of c) s.1) && true)) ≡ true
    → (a ≡ number (value_of a)) × IsWithin r.0 r.1 (value_of a) × (c ≡ number (value_of c)) × IsWithin s.0 s.1 (value_of c)
read_two a c r s fits also n w =
    let first = ranged a r.0 fits (both n).0 (both w).0 in
    let second = ranged c s.0 also (both (both n).1).0 (both (both w).1).0 in
    (first.0, first.1, second.0, second.1)

-- what is known of a line of books to which no reason applies
pub record HasNoFault (p : Printed) (words : Words) : Type 0 where
  pub formed : is_none (form_of (books_forms p.version p.instruments) words) ≡ false
  pub in_order : is_late_in (kind_of words) p ≡ false
  pub numbers : are_numbers (drop 1 words) ≡ true
  pub ranges : are_in_range (drop 1 words) (ranges_of (form_of (books_forms p.version p.instruments) words)) ≡ true
  pub queued : (begins (codes "call") words && nat_le p.ring (length p.calls)) ≡ false
  pub rises : is_low_in (kind_of words) (line_key words) p ≡ false
  pub account : (begins (codes "position") words && not (list_any (λ e. e.0 == word_value words 1) p.accounts)) ≡ false
  pub price : (begins (codes "position") words && not (list_any (λ e. e.0 == word_value words 2) p.prices)) ≡ false
  pub room : (takes_block words && nat_le p.blocks (length p.accounts + length p.prices + length p.positions)) ≡ false

pub has_no_fault : (p : Printed) (words : Words) → fault_at p words ≡ None → HasNoFault p words
has_no_fault p words none =
    let n1 = none_applies _ fault.Word _ none in
    let n2 = none_applies _ fault.Order _ n1.1 in
    let n3 = none_applies _ fault.Number _ n2.1 in
    let n4 = none_applies _ fault.Limit _ n3.1 in
    let limit = neither n4.0 in
    let n5 = none_applies _ fault.Order _ n4.1 in
    let n6 = none_applies _ fault.Account _ n5.1 in
    let n7 = none_applies _ fault.Price _ n6.1 in
    let n8 = none_applies _ fault.Blocks _ n7.1 in
    record {
      formed = n1.0;
      in_order = n2.0;
      numbers = passed n3.0;
      ranges = passed limit.0;
      queued = limit.1;
      rises =
          n5.0;
      account = n6.0;
      price = n7.0;
      room = n8.0;
    }

-- a key among those of a map is found
pub key_found : (m : finmap.FinMap nat_cmp ℕ) (a : ℕ) → list_any (λ x. x.0 == a) (finmap.entries m) ≡ true → IsSome (finmap.get m a)
key_found m a h = subst IsSome (sym (get-entries m a)) (by (finmap.entries m) h)
  where
    by : (es : List (ℕ × ℕ)) → list_any (λ x. x.0 == a) es ≡ true → IsSome (find nat_cmp a es)
    by [] g = absurd (false≢true g)
    by (e ∷ es) g = here (nat_cmp a e.0) refl (e.0 == a) refl g (by es)
      where
        here : (r : Ordering) → nat_cmp a e.0 ≡ r → (c : Bool) → (e.0 == a) ≡ c
            → (c || list_any (λ x. x.0 == a) es) ≡ true
            → (list_any (λ x. x.0 == a) es ≡ true → IsSome (find nat_cmp a es)) → IsSome (cond (is_eq r) (Some e.1) (find nat_cmp a es))
        here Equal q c f g rest = refl
        here Less q true f g rest = absurd (omega (arith, ranked a e.0 Less (sym q), eqb-true e.0 a f))
        here Less q false f g rest = rest g
        here Greater q true f g rest = absurd (omega (arith, ranked a e.0 Greater (sym q), eqb-true e.0 a f))
        here Greater q false f g rest = rest g

module _ (version : Version) {b : ClearingBooks} (range : AreInRange b) where
  -- a block is left if no reason says otherwise
  free : nat_le b.blocks (length (finmap.entries b.accounts) + length (finmap.entries b.prices)
      + length (finmap.entries b.positions)) ≡ false → used b < b.blocks
  free h = omega (
    arith,
    leb-false b.blocks (length (finmap.entries b.accounts) + length (finmap.entries b.prices)
        + length (finmap.entries b.positions)) h,
    len-entries b.accounts,
    len-entries b.prices,
    len-entries b.positions,
  )

  -- what a line adds to books in range
  pub record AddsRow (words : Words) (r : Row) : Type 0 where
    pub is_row : IsRow version b words r
    pub in_range : AreInRange (with_row b r)

  pub adds_account : (a cash : List ℕ) → fault_at (printed version b) (codes "account" ∷ a ∷ cash ∷ []) ≡ None
      → AddsRow (codes "account" ∷ a ∷ cash ∷ []) (row.Account (value_of a) (value_of cash))
  adds_account a cash h =
      let none = has_no_fault (printed version b) (codes "account" ∷ a ∷ cash ∷ []) h in
      let late = neither none.in_order in
      let no_prices = no_elements (finmap.entries b.prices) late.0 in
      let no_positions = no_elements (finmap.entries b.positions) (neither late.1).0 in
      let no_calls = no_elements b.calls (neither late.1).1 in
      let read = read_two a cash accounts (0, greatest_cash version) (lit< tt) (cash_small version) none.numbers none.ranges in
      let fits : value_of cash ≤ GREATEST_CASH = omega (arith, read.3.1, cash_within version) in
      let low = all_are_below (λ e. (e.0, 0)) (value_of a, 0) (finmap.entries b.accounts) (sym (or_false _) ∙ none.rises) in
      let behind = all_follow (λ e. is_below (e.0, 0) (value_of a, 0) ≡ true) (λ e. nat_cmp e.0 (value_of a) ≡ Less)
      (finmap.entries b.accounts) (λ e g. less_number e.0 (value_of a) (below_is_less g)) low in
      let absent = absent_above nat_cmp nat_cmp_total b.accounts (value_of a) behind in
      let room = free none.room in
      record {
        is_row = record {
          fits = (read.1, fits, absent, room);
          within = read.3.1;
          lines = ap (λ l. header_words version b ∷ l) (
              (λ i. map account_words (entries_above nat_cmp nat_cmp_total b.accounts (value_of a) (value_of cash) behind
              i) ++ (map price_words (finmap.entries b.prices) ++ (map position_words (finmap.entries b.positions) ++ map call_words b.calls)))
              ∙ account_more (finmap.entries b.accounts) (finmap.entries b.prices) (finmap.entries b.positions) b.calls
              (value_of a, value_of cash) no_prices no_positions no_calls
              )
              ∙ (λ i. books_words version b ++ (codes "account" ∷ sym read.0 i ∷ sym read.2 i ∷ []) ∷ []);
        };
        in_range = put_cash-in_range b (value_of a) (value_of cash) range read.1 fits
            (omega (arith, used_after_insert b (value_of a) (value_of cash) absent, room));
      }

  pub adds_price : (i price : List ℕ) → fault_at (printed version b) (codes "price" ∷ i ∷ price ∷ []) ≡ None
      → AddsRow (codes "price" ∷ i ∷ price ∷ []) (row.Price (value_of i) (value_of price))
  adds_price i price h =
      let none = has_no_fault (printed version b) (codes "price" ∷ i ∷ price ∷ []) h in
      let late = neither none.in_order in
      let no_positions = no_elements (finmap.entries b.positions) late.0 in
      let no_calls = no_elements b.calls late.1 in
      let read = read_two i price (1, b.instruments) prices (instruments_fit range) (lit< tt) none.numbers none.ranges in
      let low = all_are_below (λ e. (e.0, 0)) (value_of i, 0) (finmap.entries b.prices) (sym (or_false _) ∙ none.rises) in
      let behind = all_follow (λ e. is_below (e.0, 0) (value_of i, 0) ≡ true) (λ e. nat_cmp e.0 (value_of i) ≡ Less)
      (finmap.entries b.prices) (λ e g. less_number e.0 (value_of i) (below_is_less g)) low in
      let absent = absent_above nat_cmp nat_cmp_total b.prices (value_of i) behind in
      let room = free none.room in
      record {
        is_row = record {
          fits = (read.1, read.3, absent, room);
          within = tt;
          lines = ap (λ l. header_words version b ∷ l) (
              (λ t. map account_words (finmap.entries b.accounts)
              ++ (map price_words (entries_above nat_cmp nat_cmp_total b.prices (value_of i) (value_of price) behind
              t) ++ (map position_words (finmap.entries b.positions) ++ map call_words b.calls)))
              ∙ price_more (finmap.entries b.accounts) (finmap.entries b.prices) (finmap.entries b.positions) b.calls
              (value_of i, value_of price) no_positions no_calls
              )
              ∙ (λ t. books_words version b ++ (codes "price" ∷ sym read.0 t ∷ sym read.2 t ∷ []) ∷ []);
        };
        in_range = put_price-in_range b (value_of i) (value_of price) range read.1 read.3
            (omega (arith, used_after_price b (value_of i) (value_of price) absent, room));
      }

  pub adds_position : (a i quantity : List ℕ) → fault_at (printed version b) (codes "position" ∷ a ∷ i ∷ quantity ∷ []) ≡ None
      → AddsRow (codes "position" ∷ a ∷ i ∷ quantity ∷ []) (row.Position (value_of a) (value_of i) (value_of quantity))
  adds_position a i quantity h =
      let none = has_no_fault (printed version b) (codes "position" ∷ a ∷ i ∷ quantity ∷ []) h in
      let no_calls = no_elements b.calls none.in_order in
      let first = ranged a 1 (lit< tt) (both none.numbers).0 (both none.ranges).0 in
      let read = read_two i quantity (1, b.instruments) quantities (instruments_fit range) (lit< tt) (both none.numbers).1 (both none.ranges).1 in
      let low = all_are_below (λ e. e.0) (value_of a, value_of i) (finmap.entries b.positions) none.rises in
      let behind = all_follow (λ e. is_below e.0 (value_of a, value_of i) ≡ true)
      (λ e. position_cmp e.0 (value_of a, value_of i) ≡ Less) (finmap.entries b.positions) (λ e g. less_pair e.0 (value_of a, value_of i) g) low in
      let absent = absent_above position_cmp positions_total b.positions (value_of a, value_of i) behind in
      let given = key_found b.accounts (value_of a) (passed none.account) in
      let priced = key_found b.prices (value_of i) (passed none.price) in
      let room = free none.room in
      record {
        is_row = record {
          fits = (given, priced, read.3, absent, room);
          within = tt;
          lines = ap (λ l. header_words version b ∷ l) (
              (λ t. map account_words (finmap.entries b.accounts)
              ++ (map price_words (finmap.entries b.prices)
              ++ (map position_words (entries_above position_cmp positions_total b.positions (value_of a, value_of i)
              (value_of quantity) behind t) ++ map call_words b.calls)))
              ∙ position_more (finmap.entries b.accounts) (finmap.entries b.prices) (finmap.entries b.positions) b.calls
              ((value_of a, value_of i), value_of quantity) no_calls
              )
              ∙ (λ t. books_words version b ++ (codes "position" ∷ sym first.0 t ∷ sym read.0 t ∷ sym read.2 t ∷ []) ∷ []);
        };
        in_range = put_quantity-in_range b (value_of a) (value_of i) (value_of quantity) range given priced read.3
            (omega (arith, used_after_position b (value_of a) (value_of i) (value_of quantity) absent, room));
      }

  pub adds_call : (a shortfall : List ℕ) → fault_at (printed version b) (codes "call" ∷ a ∷ shortfall ∷ []) ≡ None
      → AddsRow (codes "call" ∷ a ∷ shortfall ∷ []) (row.Call (value_of a) (value_of shortfall))
  adds_call a shortfall h =
      let none = has_no_fault (printed version b) (codes "call" ∷ a ∷ shortfall ∷ []) h in
      let read = read_two a shortfall accounts (1, GREATEST_SHORTFALL) (lit< tt) (lit< tt) none.numbers none.ranges in
      let room = leb-false b.ring (length b.calls) none.queued in
      record {
        is_row = record {
          fits = ((read.1, read.3), room);
          within = tt;
          lines = ap (λ l. header_words version b ∷ l) (call_more (finmap.entries b.accounts) (finmap.entries b.prices)
              (finmap.entries b.positions) b.calls (value_of a, value_of shortfall))
              ∙ (λ t. books_words version b ++ (codes "call" ∷ sym read.0 t ∷ sym read.2 t ∷ []) ∷ []);
        };
        in_range = put_call-in_range b (value_of a) (value_of shortfall) range (read.1, read.3) room;
      }

-- eight words, one by one
pub eight_words : (words : Words) → length words ≡ 8 → words ≡ word_at words 0 ∷ word_at words 1 ∷ word_at words 2
    ∷ word_at words 3 ∷ word_at words 4 ∷ word_at words 5 ∷ word_at words 6 ∷ word_at words 7 ∷ []
eight_words (a ∷ b ∷ c ∷ d ∷ e ∷ f ∷ g ∷ h ∷ []) is = refl
eight_words words is = absurd (omega arith)

-- what a first line without fault is
pub record IsHeaderOf (words : Words) (version : Version) (b : ClearingBooks) : Type 0 where
  pub in_range : AreInRange b
  pub within : AreBooksWithin version b
  pub words_are : words ≡ header_words version b
  pub lines : books_words version b ≡ words ∷ []

-- the books of a header
abbrev pub books_of_header : Words → ClearingBooks
books_of_header words = empty_books (word_value words 3) (word_value words 5) (word_value words 7)

pub header_adds : (words : Words) → header_fault words ≡ None → IsHeaderOf words (header_version words) (books_of_header words)
header_adds words none =
    let n1 = none_applies _ fault.Header _ none in
    let n2 = none_applies _ fault.Number _ n1.1 in
    let n3 = none_applies _ fault.Limit _ n2.1 in
    let numbers = passed n2.0 in
    let ranges = passed n3.0 in
    let version = header_version words in
    let blocks = ranged (word_at words 3) 1 (blocks_small version) (both numbers).0 (both ranges).0 in
    let instruments = ranged (word_at words 5) 1 (lit< tt) (both (both numbers).1).0 (both (both ranges).1).0 in
    let ring = ranged (word_at words 7) 1 (lit< tt) (both (both (both numbers).1).1).0 (both (both (both ranges).1).1).0 in
    let named = both (passed n1.0) in
    let form = both named.0 in
    let form1 = both form.0 in
    let form2 = both form1.0 in
    let form3 = both form2.0 in
    let same : (i : ℕ) (k : List ℕ) → bytes_eq (word_at words i) k ≡ true → word_at words i ≡ k = λ i k e. (bytes_eq-Decides (word_at words i) k).0 e in
    let is : words ≡ header_words version (books_of_header words) =
    eight_words words (eqb-true (length words) 8 form3.0)
    ∙ (λ t. same 0 (codes "books") form3.1 t ∷ word_of_version (word_at words 1) named.1 t ∷ same 2 (codes "blocks") form2.1 t
    ∷ blocks.0 t ∷ same 4 (codes "instruments") form1.1 t ∷ instruments.0 t ∷ same 6 (codes "ring") form.1 t ∷ ring.0 t ∷ []) in
    record {
      in_range = empty_books-in_range (word_value words 3) (word_value words 5) (word_value words 7)
          (blocks.1.0, omega (arith, blocks.1.1, blocks_within version)) instruments.1 ring.1;
      within = record { blocks = blocks.1.1; cash = λ a cash found. absurd (none-some _ (sym (finmap.get-empty nat_cmp a) ∙ found)) };
      words_are = is;
      lines = (λ t. header_words version (books_of_header words)
          ∷ (map account_words (no_entries nat_cmp t)
          ++ (map price_words (no_entries nat_cmp t) ++ (map position_words (no_entries position_cmp t) ++ [])))) ∙ ap (λ w. w ∷ []) (sym is);
    }
  where
    no_entries : {K : Type 0} (R : K → K → Ordering) → finmap.entries (finmap.empty {X = ℕ} {R = R}) ≡ []
    no_entries {K = K} R = no_elements _ (by (finmap.entries (finmap.empty {X = ℕ} {R = R})) (sym (len-entries (finmap.empty {X = ℕ} {R = R})) ∙ len-empty R ℕ))
      where
        by : (es : List (K × ℕ)) → length es ≡ 0 → is_some_list es ≡ false
        by [] e = refl
        by (x ∷ es) e = absurd (omega (arith, e))
