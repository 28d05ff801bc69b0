-- Why a line of books is refused, by its kind.
use Rattle.script_reader.proofs.Common.{◌≡◌, ℕ, ◌+◌, Bool, true, false, not, ◌&&◌, ◌||◌, ◌==◌, nat_le, cond, List, [], ◌∷◌, codes, drop, length, Option, Some}
use Rattle.script_reader.proofs.Common.{None, subst, refl, sym, ap, ◌∙◌, list_any, is_none, none-some, ClearingBooks, AreInRange, Fault, books_words, Words}
use Rattle.script_reader.proofs.Common.{Form, form, books_forms, begins, form_of, ranges_of, word_value, are_numbers, are_in_range, first_reason, kind_of}
use Rattle.script_reader.proofs.Common.{line_key, takes_block, fault_of, Row, IsRow, HasNumbers, numbers_fault, Version}
use Rattle.script_reader.proofs.books.RowRanges.{account_ranges, price_ranges, position_ranges, call_ranges}
use Rattle.script_reader.proofs.Conditions.{any_fixed, is_some_list}
use Rattle.script_reader.proofs.books.Printing.Printed.{reasons, books_fault_is, fault_at, is_late_in, is_low_in}
use Rattle.script_reader.proofs.books.Printing.Scripted.{in_books}
use Rattle.script_reader.proofs.LineFaults.LineKinds.{two_behind, three_behind}
use Rattle.script_reader.proofs.books.WithoutFault.BooksFaultless.{printed, printed_small}
use Rattle.script_reader.proofs.books.Printing.Extending.{AddsRow, adds_account, adds_price, adds_position, adds_call}
use Rattle.std.specs.FinMap as finmap
use Rattle.script_reader.specs.declared.fault.Fault.TheVariants as fault
use Rattle.script_reader.specs.declared.books.Row.TheVariants as row

-- what is wrong with numbers comes first if the line has its form and its place
pub numbers_first : (number limit more low account price full : Bool) {why : Fault}
    → first_reason ((number, fault.Number) ∷ (limit, fault.Limit) ∷ []) ≡ Some why
    → reasons false false number (limit || more) low account price full ≡ Some why
numbers_first true limit more low account price full h = h
numbers_first false true more low account price full h = h
numbers_first false false more low account price full h = absurd (none-some _ h)

-- what is wrong with a row is wrong with it if there may be too many
pub row_first : (word number limit more : Bool) {why : Fault}
    → first_reason ((word, fault.Word) ∷ (number, fault.Number) ∷ (limit, fault.Limit) ∷ []) ≡ Some why
    → first_reason ((word, fault.Word) ∷ (number, fault.Number) ∷ (limit || more, fault.Limit) ∷ []) ≡ Some why
row_first true number limit more h = h
row_first false true limit more h = h
row_first false false true more h = h
row_first false false false more h = absurd (none-some _ h)

-- whether there is an element
pub some_is : {A : Type 0} (xs : List A) → list_any (λ _. true) xs ≡ is_some_list xs
some_is xs = any_fixed true xs

-- no block is left
abbrev pub has_no_block : ClearingBooks → Bool
has_no_block b = nat_le b.blocks (length (finmap.entries b.accounts) + length (finmap.entries b.prices) + length (finmap.entries b.positions))

-- the reasons against a row of a kind: its place, its numbers, how many there are, and then its key, what it is of and what it takes
pub record IsRefused (version : Version) (b : ClearingBooks) (words : Words) (ranges : List (ℕ × ℕ)) (late many low account price full : Bool) : Type 0 where
  pub fault : fault_of (books_words version b) words
      ≡ reasons false late (not (are_numbers (drop 1 words))) (not (are_in_range (drop 1 words) ranges) || many) low account price full

module _ {version : Version} {b : ClearingBooks} {words : Words} {ranges : List (ℕ × ℕ)} {late many low account price full : Bool}
    (refused : IsRefused version b words ranges late many low account price full) where
  -- a row behind lines of a later kind
  pub late_row : late ≡ true → fault_of (books_words version b) words ≡ Some fault.Order
  late_row is = refused.fault ∙ (λ i. reasons false (is i) (not (are_numbers (drop 1 words)))
      (not (are_in_range (drop 1 words) ranges) || many) low account price full)

  -- a row whose numbers are wrong
  pub numbers_row : {why : Fault} → late ≡ false → numbers_fault words ranges ≡ Some why → fault_of (books_words version b) words ≡ Some why
  numbers_row {why = why} early wrong = refused.fault
      ∙ (λ i. reasons false (early i) (not (are_numbers (drop 1 words))) (not (are_in_range (drop 1 words) ranges) || many) low account price full)
      ∙ numbers_first _ _ many low account price full wrong

  -- a row whose numbers are read
  pub read_row : {many' low' account' price' full' : Bool} → late ≡ false → HasNumbers words ranges → many ≡ many' → low ≡ low'
      → account ≡ account' → price ≡ price' → full ≡ full'
      → fault_of (books_words version b) words ≡ reasons false false false many' low' account' price' full'
  read_row {many' = many'} {low' = low'} {account' = account'} {price' = price'} {full' = full'} early numbers m l a p f = refused.fault
      ∙ (λ i. reasons false (early i) (not (numbers.numbers i)) (not (numbers.in_range i) || m i) (l i) (a i) (p i) (f i))

module _ (version : Version) {b : ClearingBooks} (range : AreInRange b) (words : Words) where
  -- what is wrong with a line of a kind
  by_kind : {these : Words} (f : Form) (kind : ℕ) (key : Words → ℕ × ℕ) (call position block : Bool) → words ≡ these
      → form_of (books_forms version b.instruments) these ≡ Some f → kind_of these ≡ kind → line_key these ≡ key these
      → begins (codes "call") these ≡ call → begins (codes "position") these ≡ position → takes_block these ≡ block
      → fault_of (books_words version b) words ≡ reasons false (is_late_in kind (printed version b)) (not (are_numbers (drop 1 words)))
      (not (are_in_range (drop 1 words) f.ranges) || (call && nat_le b.ring (length b.calls))) (is_low_in kind (key words) (printed version b))
      (position && not (list_any (λ e. e.0 == word_value words 1) (finmap.entries b.accounts)))
      (position && not (list_any (λ e. e.0 == word_value words 2) (finmap.entries b.prices))) (block && has_no_block b)
  by_kind f kind key call position block is form_at kind_at key_at call_at position_at block_at =
      let form_is = ap (form_of (books_forms version b.instruments)) is ∙ form_at in
      let kind_is = ap kind_of is ∙ kind_at in
      let key_is = ap line_key is ∙ key_at ∙ sym (ap key is) in
      let position_is = ap (begins (codes "position")) is ∙ position_at in
      in_books (printed version b) words ∙ books_fault_is words (printed_small range version)
      ∙ (λ i. reasons (is_none (form_is i)) (is_late_in (kind_is i) (printed version b)) (not (are_numbers (drop 1 words)))
      (not (are_in_range (drop 1 words) (ranges_of (form_is i))) || ((ap (begins (codes "call")) is ∙ call_at) i && nat_le b.ring (length b.calls)))
      (is_low_in (kind_is i) (key_is i) (printed version b))
      (position_is i && not (list_any (λ e. e.0 == word_value words 1) (finmap.entries b.accounts)))
      (position_is i && not (list_any (λ e. e.0 == word_value words 2) (finmap.entries b.prices))) ((ap takes_block is ∙ block_at) i && has_no_block b))

  pub account_fault : (begins (codes "account") words && length words == 3) ≡ true
      → IsRefused version b words (account_ranges version) (is_late_in 0 (printed version b)) false (is_low_in 0 (word_value words 1, 0) (printed version b))
      false false (has_no_block b)
  account_fault row =
      let e = two_behind (codes "account") words row in
      record {
        fault = by_kind (form (codes "account") (account_ranges version)) 0
            (λ w. (word_value w 1, 0)) false false true e.2 refl refl refl refl refl refl;
      }

  pub price_fault : (begins (codes "price") words && length words == 3) ≡ true
      → IsRefused version b words (price_ranges b.instruments) (is_late_in 1 (printed version b)) false
      (is_low_in 1 (word_value words 1, 0) (printed version b))
      false false
      (has_no_block b)
  price_fault row =
      let e = two_behind (codes "price") words row in
      record {
        fault = by_kind (form (codes "price") (price_ranges b.instruments)) 1
            (λ w. (word_value w 1, 0)) false false true e.2 refl refl refl refl refl refl;
      }

  pub position_fault : (begins (codes "position") words && length words == 4) ≡ true
      → IsRefused version b words (position_ranges b.instruments) (is_late_in 2 (printed version b)) false
      (is_low_in 2 (word_value words 1, word_value words 2) (printed version b))
      (not (list_any (λ e. e.0 == word_value words 1) (finmap.entries b.accounts))) (not (list_any (λ e. e.0 == word_value words 2) (finmap.entries b.prices)))
      (has_no_block b)
  position_fault row =
      let e = three_behind (codes "position") words row in
      record {
        fault = by_kind (form (codes "position") (position_ranges b.instruments)) 2
            (λ w. (word_value w 1, word_value w 2)) false true true e.3 refl refl refl refl refl refl;
      }

  pub call_fault : (begins (codes "call") words && length words == 3) ≡ true
      → IsRefused version b words call_ranges false (nat_le b.ring (length b.calls)) false false false false
  call_fault row =
      let e = two_behind (codes "call") words row in
      record {
        fault = by_kind (form (codes "call") call_ranges) 3
            (λ w. (word_value w 1, 0)) true false false e.2 refl refl refl refl refl refl;
      }

  -- no kind is that of the line
  pub word_fault : (begins (codes "account") words && length words == 3) ≡ false
      → (begins (codes "price") words && length words == 3) ≡ false
      → (begins (codes "position") words && length words == 4) ≡ false → (begins (codes "call") words && length words == 3) ≡ false
      → (begins (codes "scripts") words && length words == 1) ≡ false → fault_of (books_words version b) words ≡ Some fault.Word
  word_fault a p q c s = in_books (printed version b) words ∙ books_fault_is words (printed_small range version)
      ∙ by (form_of (books_forms version b.instruments) words) none
    where
      none : form_of (books_forms version b.instruments) words ≡ None
      none i = cond (a i) (Some (form (codes "account") (account_ranges version)))
          (cond (p i) (Some (form (codes "price") (price_ranges b.instruments)))
          (cond (q i) (Some (form (codes "position") (position_ranges b.instruments)))
          (cond (c i) (Some (form (codes "call") call_ranges))
          (cond (s i) (Some (form (codes "scripts") [])) None))))

      by : (o : Option Form) → o ≡ None
          → reasons (is_none o) (is_late_in (kind_of words) (printed version b)) (not (are_numbers (drop 1 words)))
          (not (are_in_range (drop 1 words) (ranges_of o)) ||
          (begins (codes "call") words && nat_le b.ring (length b.calls))) (is_low_in (kind_of words) (line_key words) (printed version b))
          (begins (codes "position") words && not (list_any (λ e. e.0 == word_value words 1) (finmap.entries b.accounts)))
          (begins (codes "position") words && not (list_any (λ e. e.0 == word_value words 2) (finmap.entries b.prices)))
          (takes_block words && has_no_block b) ≡ Some fault.Word
      by None e = refl
      by (Some f) e = absurd (none-some _ (sym e))

-- whether lines of a later kind stand behind those of accounts, of prices and of positions
pub accounts_late : (version : Version) (b : ClearingBooks) → is_late_in 0 (printed version b) ≡ (list_any (λ _. true) (finmap.entries b.prices)
    || (list_any (λ _. true) (finmap.entries b.positions) || list_any (λ _. true) b.calls))
accounts_late version b = sym (λ i. some_is (finmap.entries b.prices) i || (some_is (finmap.entries b.positions) i || some_is b.calls i))

pub prices_late : (version : Version) (b : ClearingBooks)
    → is_late_in 1 (printed version b) ≡ (list_any (λ _. true) (finmap.entries b.positions) || list_any (λ _. true) b.calls)
prices_late version b = sym (λ i. some_is (finmap.entries b.positions) i || some_is b.calls i)

module _ (version : Version) {b : ClearingBooks} (range : AreInRange b) where
  -- no reason applies to a line behind the lines of books
  at_books : (words : Words) → fault_of (books_words version b) words ≡ None → fault_at (printed version b) words ≡ None
  at_books words none = sym (in_books (printed version b) words ∙ books_fault_is words (printed_small range version)) ∙ none

  -- the row of a line without fault, by its words
  gives : {words these : Words} (r : Words → Row) → words ≡ these
      → (fault_at (printed version b) these ≡ None → AddsRow version range these (r these))
      → fault_of (books_words version b) words ≡ None → IsRow version b words (r words)
  gives {words} r is adds none = subst (λ w. IsRow version b w (r w)) (sym is)
      (adds (subst (λ w. fault_at (printed version b) w ≡ None) is (at_books words none))).is_row

  pub gives_account : {words : Words} → (begins (codes "account") words && length words == 3) ≡ true
      → fault_of (books_words version b) words ≡ None → IsRow version b words (row.Account (word_value words 1) (word_value words 2))
  gives_account {words} is =
      let e = two_behind (codes "account") words is in
      gives (λ w. row.Account (word_value w 1) (word_value w 2)) e.2 (adds_account version range e.0 e.1)

  pub gives_price : {words : Words} → (begins (codes "price") words && length words == 3) ≡ true → fault_of (books_words version b) words ≡ None
      → IsRow version b words (row.Price (word_value words 1) (word_value words 2))
  gives_price {words} is =
      let e = two_behind (codes "price") words is in
      gives (λ w. row.Price (word_value w 1) (word_value w 2)) e.2 (adds_price version range e.0 e.1)

  pub gives_position : {words : Words} → (begins (codes "position") words && length words == 4) ≡ true
      → fault_of (books_words version b) words ≡ None → IsRow version b words (row.Position (word_value words 1) (word_value words 2) (word_value words 3))
  gives_position {words} is =
      let e = three_behind (codes "position") words is in
      gives (λ w. row.Position (word_value w 1) (word_value w 2) (word_value w 3)) e.3 (adds_position version range e.0 e.1 e.2)

  pub gives_call : {words : Words} → (begins (codes "call") words && length words == 3) ≡ true → fault_of (books_words version b) words ≡ None
      → IsRow version b words (row.Call (word_value words 1) (word_value words 2))
  gives_call {words} is =
      let e = two_behind (codes "call") words is in
      gives (λ w. row.Call (word_value w 1) (word_value w 2)) e.2 (adds_call version range e.0 e.1)
