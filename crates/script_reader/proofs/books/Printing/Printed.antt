-- What the lines of books say of a line behind them.
use Rattle.script_reader.proofs.Common.{◌≡◌, ℕ, ◌+◌, ◌<◌, ◌^◌, Bool, not, ◌&&◌, ◌||◌, ◌==◌, nat_lt, nat_le, List, [], ◌∷◌, ◌++◌, codes, map, drop, length, cond}
use Rattle.script_reader.proofs.Common.{Option, ap, ◌∙◌, arith, list_any, count_by, AllByRecursion, is_none, sum_by-cons, Version, Fault, number, account_words}
use Rattle.script_reader.proofs.Common.{price_words, position_words, call_words, version_word, Words, books_forms, begins, form_of, ranges_of, value_of}
use Rattle.script_reader.proofs.Common.{word_value, are_numbers, are_in_range, first_reason, kind_of, takes_block, line_key, is_below, is_late, is_low}
use Rattle.script_reader.proofs.Common.{is_given, books_fault}
use Rattle.script_reader.proofs.text.Tokens.Numerals.{value_of_number}
use Rattle.script_reader.proofs.books.Versions.{version_read}
use Rattle.script_reader.proofs.Conditions.{is_some_list, any_part, any_last, count_part, count_last, any_never, any_fixed, any_agree, any_and, or_false}
use Rattle.script_reader.proofs.Conditions.{count_never, count_always}
use Rattle.script_reader.specs.declared.fault.Fault.TheVariants as fault

-- books as lists, in the order in which they are printed
pub record Printed : Type 0 where
  pub version : Version
  pub blocks : ℕ
  pub instruments : ℕ
  pub ring : ℕ
  pub accounts : List (ℕ × ℕ)
  pub prices : List (ℕ × ℕ)
  pub positions : List ((ℕ × ℕ) × ℕ)
  pub calls : List (ℕ × ℕ)

abbrev pub header_of : Printed → Words
header_of p = codes "books" ∷ version_word p.version ∷ codes "blocks" ∷ number p.blocks ∷ codes "instruments" ∷ number p.instruments ∷ codes "ring"
    ∷ number p.ring ∷ []

-- their lines behind the header
abbrev pub entries_of : Printed → List Words
entries_of p = map account_words p.accounts ++ (map price_words p.prices ++ (map position_words p.positions ++ map call_words p.calls))

abbrev pub print : Printed → List Words
print p = header_of p ∷ entries_of p

-- the sizes and the keys have texts
pub record IsSmall (p : Printed) : Type 0 where
  pub blocks : p.blocks < 2 ^ 64
  pub instruments : p.instruments < 2 ^ 64
  pub ring : p.ring < 2 ^ 64
  pub accounts : AllByRecursion (λ e. e.0 < 2 ^ 64) p.accounts
  pub prices : AllByRecursion (λ e. e.0 < 2 ^ 64) p.prices
  pub positions : AllByRecursion (λ e. (e.0.0 < 2 ^ 64) × (e.0.1 < 2 ^ 64)) p.positions

-- the reasons against a line of books, in their order
abbrev pub reasons : Bool → Bool → Bool → Bool → Bool → Bool → Bool → Bool → Option Fault
reasons word late number limit low account price full = first_reason (
    (word, fault.Word)
    ∷ (late, fault.Order)
    ∷ (number, fault.Number)
    ∷ (limit, fault.Limit)
    ∷ (low, fault.Order)
    ∷ (account, fault.Account)
    ∷ (price, fault.Price)
    ∷ (full, fault.Blocks)
    ∷ []
    )

-- some line behind the header passes
pub any_entry : (t : Words → Bool) (p : Printed) → list_any t (entries_of p)
    ≡ (list_any (λ e. t (account_words e)) p.accounts ||
    (list_any (λ e. t (price_words e)) p.prices || (list_any (λ e. t (position_words e)) p.positions || list_any (λ e. t (call_words e)) p.calls)))
any_entry t p =
    any_part t account_words p.accounts _
    ∙ ap (λ b. list_any (λ e. t (account_words e)) p.accounts || b) (any_part t price_words p.prices _)
    ∙ ap (λ b. list_any (λ e. t (account_words e)) p.accounts || (list_any (λ e. t (price_words e)) p.prices || b)) (any_part t position_words p.positions _)
    ∙ ap (λ b. list_any (λ e. t (account_words e)) p.accounts ||
    (list_any (λ e. t (price_words e)) p.prices || (list_any (λ e. t (position_words e)) p.positions || b))) (any_last t call_words p.calls)

-- so many lines behind the header pass
pub count_entries : (t : Words → Bool) (p : Printed) → count_by t (entries_of p)
    ≡ count_by (λ e. t (account_words e)) p.accounts
    + (count_by (λ e. t (price_words e)) p.prices + (count_by (λ e. t (position_words e)) p.positions + count_by (λ e. t (call_words e)) p.calls))
count_entries t p = omega (
  arith,
  count_part t account_words p.accounts (map price_words p.prices ++ (map position_words p.positions ++ map call_words p.calls)),
  count_part t price_words p.prices (map position_words p.positions ++ map call_words p.calls),
  count_part t position_words p.positions (map call_words p.calls),
  count_last t call_words p.calls,
)

-- a line of kind k stands behind a line of a later kind
abbrev pub is_late_in : ℕ → Printed → Bool
is_late_in k p =
    (nat_lt k 0 && is_some_list p.accounts)
    || ((nat_lt k 1 && is_some_list p.prices) || ((nat_lt k 2 && is_some_list p.positions) || (nat_lt k 3 && is_some_list p.calls)))

pub late : (p : Printed) (words : Words) → is_late (print p) words ≡ is_late_in (kind_of words) p
late p words =
    any_entry (λ w. nat_lt (kind_of words) (kind_of w)) p
    ∙ (λ t. any_fixed (nat_lt (kind_of words) 0) p.accounts t
    || (any_fixed (nat_lt (kind_of words) 1) p.prices t || (any_fixed (nat_lt (kind_of words) 2) p.positions t ||
    any_fixed (nat_lt (kind_of words) 3) p.calls t)))

-- a line of kind k with this key does not rise
abbrev pub is_low_in : ℕ → ℕ × ℕ → Printed → Bool
is_low_in k key p =
    ((0 == k) && list_any (λ e. not (is_below (e.0, 0) key)) p.accounts)
    || (((1 == k) && list_any (λ e. not (is_below (e.0, 0) key)) p.prices) || ((2 == k) && list_any (λ e. not (is_below e.0 key)) p.positions))

-- the value of a key is the key
single : (t : ℕ × ℕ → Bool) (es : List (ℕ × ℕ)) → AllByRecursion (λ e. e.0 < 2 ^ 64) es → AllByRecursion (λ e. t (value_of (number e.0), 0) ≡ t (e.0, 0)) es
single t [] small = tt
single t (e ∷ es) small = (ap (λ n. t (n, 0)) (value_of_number small.0), single t es small.1)

pairs : (t : ℕ × ℕ → Bool) (es : List ((ℕ × ℕ) × ℕ)) → AllByRecursion (λ e. (e.0.0 < 2 ^ 64) × (e.0.1 < 2 ^ 64)) es
    → AllByRecursion (λ e. t (value_of (number e.0.0), value_of (number e.0.1)) ≡ t e.0) es
pairs t [] small = tt
pairs t (e ∷ es) small = ((λ i. t (value_of_number small.0.0 i, value_of_number small.0.1 i)), pairs t es small.1)

pub low : (p : Printed) (words : Words) → IsSmall p → is_low (print p) words ≡ is_low_in (kind_of words) (line_key words) p
low p words small =
    let k : ℕ = kind_of words in
    let key : ℕ × ℕ = line_key words in
    let t : ℕ × ℕ → Bool = λ x. not (is_below x key) in
    any_entry (λ w. takes_block w && ((kind_of w == k) && not (is_below (line_key w) key))) p
    ∙ (λ i. any_and (0 == k) (λ e. t (value_of (number e.0), 0)) p.accounts i
    || (any_and (1 == k) (λ e. t (value_of (number e.0), 0)) p.prices i
    || (any_and (2 == k) (λ e. t (value_of (number e.0.0), value_of (number e.0.1))) p.positions i || any_never p.calls i)))
    ∙ (λ i. ((0 == k) && any_agree (λ e. t (value_of (number e.0), 0)) (λ e. t (e.0, 0)) p.accounts (single t p.accounts small.accounts) i)
    || (((1 == k) && any_agree (λ e. t (value_of (number e.0), 0)) (λ e. t (e.0, 0)) p.prices (single t p.prices small.prices) i)
    || or_false ((2 == k) && any_agree (λ e. t (value_of (number e.0.0), value_of (number e.0.1))) (λ e. t e.0)
    p.positions (pairs t p.positions small.positions) i) i))

-- an account, or a price, was given
numbered : (n : ℕ) (es : List (ℕ × ℕ)) → AllByRecursion (λ e. e.0 < 2 ^ 64) es → AllByRecursion (λ e. (value_of (number e.0) == n) ≡ (e.0 == n)) es
numbered n [] small = tt
numbered n (e ∷ es) small = (ap (λ m. m == n) (value_of_number small.0), numbered n es small.1)

pub account_given : {p : Printed} (n : ℕ) → IsSmall p → is_given (print p) (codes "account") n ≡ list_any (λ e. e.0 == n) p.accounts
account_given {p} n small =
    any_entry (λ w. begins (codes "account") w && word_value w 1 == n) p
    ∙ (λ i. any_agree (λ e. value_of (number e.0) == n) (λ e. e.0 == n) p.accounts (numbered n p.accounts small.accounts) i
    || (any_never p.prices i || (any_never p.positions i || any_never p.calls i)))
    ∙ or_false (list_any (λ e. e.0 == n) p.accounts)

pub price_given : {p : Printed} (n : ℕ) → IsSmall p → is_given (print p) (codes "price") n ≡ list_any (λ e. e.0 == n) p.prices
price_given {p} n small =
    any_entry (λ w. begins (codes "price") w && word_value w 1 == n) p
    ∙ (λ i. any_never p.accounts i
    || (any_agree (λ e. value_of (number e.0) == n) (λ e. e.0 == n) p.prices (numbered n p.prices small.prices) i ||
    (any_never p.positions i || any_never p.calls i)))
    ∙ or_false (list_any (λ e. e.0 == n) p.prices)

-- how many calls there are, and how many blocks are taken
pub call_count : (p : Printed) → count_by (begins (codes "call")) (print p) ≡ length p.calls
call_count p = omega (
  arith,
  sum_by-cons (λ w. cond (begins (codes "call") w) 1 0) (header_of p) (entries_of p),
  count_entries (begins (codes "call")) p,
  count_never p.accounts,
  count_never p.prices,
  count_never p.positions,
  count_always p.calls,
)

pub block_count : (p : Printed) → count_by takes_block (print p) ≡ length p.accounts + length p.prices + length p.positions
block_count p = omega (
  arith,
  sum_by-cons (λ w. cond (takes_block w) 1 0) (header_of p) (entries_of p),
  count_entries takes_block p,
  count_always p.accounts,
  count_always p.prices,
  count_always p.positions,
  count_never p.calls,
)

-- what is wrong with a line behind the lines of books
abbrev pub fault_at : Printed → Words → Option Fault
fault_at p words =
    let form = form_of (books_forms p.version p.instruments) words in
    first_reason (
    (is_none form, fault.Word)
    ∷ (is_late_in (kind_of words) p, fault.Order)
    ∷ (not (are_numbers (drop 1 words)), fault.Number)
    ∷ (not (are_in_range (drop 1 words) (ranges_of form)) || (begins (codes "call") words && nat_le p.ring (length p.calls)), fault.Limit)
    ∷ (is_low_in (kind_of words) (line_key words) p, fault.Order)
    ∷ (begins (codes "position") words && not (list_any (λ e. e.0 == word_value words 1) p.accounts), fault.Account)
    ∷ (begins (codes "position") words && not (list_any (λ e. e.0 == word_value words 2) p.prices), fault.Price)
    ∷ (takes_block words && nat_le p.blocks (length p.accounts + length p.prices + length p.positions), fault.Blocks)
    ∷ []
    )

pub books_fault_is : {p : Printed} (words : Words) → IsSmall p → books_fault (print p) words ≡ fault_at p words
books_fault_is {p} words small i =
    let form = form_of (books_forms (version_read p.version i) (value_of_number small.instruments i)) words in
    first_reason (
    (is_none form, fault.Word)
    ∷ (late p words i, fault.Order)
    ∷ (not (are_numbers (drop 1 words)), fault.Number)
    ∷ (
      not (are_in_range (drop 1 words) (ranges_of form)) ||
          (begins (codes "call") words && nat_le (value_of_number small.ring i) (call_count p i)),
      fault.Limit,
    )
    ∷ (low p words small i, fault.Order)
    ∷ (begins (codes "position") words && not (account_given (word_value words 1) small i), fault.Account)
    ∷ (begins (codes "position") words && not (price_given (word_value words 2) small i), fault.Price)
    ∷ (takes_block words && nat_le (value_of_number small.blocks i) (block_count p i), fault.Blocks)
    ∷ []
    )
