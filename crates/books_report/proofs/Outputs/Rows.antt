-- The lines of outputs: each is one line, and joined they are the text.
use Rattle.books_report.proofs.Common.{◌≡◌, ◌≢◌, ℕ, zero, suc, ◌+◌, ◌<◌, ◌==◌, Bool, true, false, if◌then◌else◌, List, [], ◌∷◌, ◌++◌, codes, length, map, refl}
use Rattle.books_report.proofs.Common.{sym, ap, ◌∙◌, append_assoc, append-nil, length-append, lit<, arith, AllByRecursion, concat, flat_map, join_with_byte}
use Rattle.books_report.proofs.Common.{eq-eqb, ne_eqb, nat_tests, caller_at, Reply, ClearingBooks, word_of_value, SPACE, LINE_FEED, Two, IsFreeOf, line, number}
use Rattle.books_report.proofs.Common.{account_line, price_line, position_line, call_line, finish_line, books_lines, ClearingInput, IsInput, IsName}
use Rattle.books_report.proofs.Common.{count_scripts, line_once, caller-AreWords, reply_words, places_run, journal_line, journal_lines, Ran, books_after}
use Rattle.books_report.proofs.Common.{FollowInTurn, journal_as_lines, closing_lines, lines_behind, output_lines}
use Rattle.script_reader.proofs.Common.{IsWord, AreWords, header_words, account_words, price_words, position_words, call_words}
use Rattle.std.proofs.Common.{◌/◌, ◌%◌}
use Rattle.std.specs.Fmt.{digits, digits_onto, digit_glyph}
use Rattle.books_model.specs.declared.reply.Decline.{Decline}
use Rattle.books_model.specs.declared.reply.Value.{Value}
use Rattle.books_model.specs.Words.{decline_word}
use Rattle.script_reader.specs.Text.{header_line}
use Rattle.script_reader.proofs.text.Tokens.Cutting.{free-append, word_from_test}
use Rattle.books_report.specs.Output.{output_of}
use Rattle.std.specs.FinMap as finmap
use Rattle.books_model.specs.declared.reply.Decline.TheVariants as decline
use Rattle.books_model.specs.declared.reply.Value.TheVariants as value
use Rattle.books_model.specs.declared.reply.Reply.TheVariants as reply

-- bytes that are one line
abbrev pub IsRow : List ℕ → Type 0
IsRow row = (words : List (List ℕ)) × AreWords words × (row ≡ line words)

-- a text begins with one line at most
pub row_once : {a b : List ℕ} (x y : List ℕ) → IsRow a → IsRow b → a ++ x ≡ b ++ y → (a ≡ b) × (x ≡ y)
row_once x y p q e =
    let same = line_once p.0 q.0 x y p.1 q.1 (ap (λ l. l ++ x) (sym p.2) ∙ e ∙ ap (λ l. l ++ y) q.2) in
    (p.2 ∙ ap line same.0 ∙ sym q.2, same.1)

-- a line is not nothing
pub row_some : {a : List ℕ} (x : List ℕ) → IsRow a → a ++ x ≢ []
row_some {a} x p e = omega (arith, ap length p.2, length-append (join_with_byte SPACE p.0) (LINE_FEED ∷ []), length-append a x, ap length e)

-- digits are above the bytes that separate words and lines
digit_is : {c : ℕ} (d : ℕ) → c < 48 → (digit_glyph false d == c) ≡ false
digit_is d low = grind (arith, nat_tests, low)

digits_free : {c : ℕ} (k n : ℕ) (acc : List ℕ) → c < 48 → IsFreeOf c acc → IsFreeOf c (digits_onto k 10 false n acc)
digits_free zero n acc low f = f
digits_free {c} (suc k) n acc low f = by (n / 10 == 0) (digits_free k (n / 10) (digit_glyph false (n % 10) ∷ acc) low (digit_is (n % 10) low, f))
  where
    by : (last : Bool) → IsFreeOf c (digits_onto k 10 false (n / 10) (digit_glyph false (n % 10) ∷ acc))
        → IsFreeOf c (if last then digit_glyph false (n % 10) ∷ acc else digits_onto k 10 false (n / 10) (digit_glyph false (n % 10) ∷ acc))
    by true more = (digit_is (n % 10) low, f)
    by false more = more

-- a number is a word, however great it is
pub number-word : (n : ℕ) → IsWord (number n)
unfolding digits
number-word n = (digits_free 64 n [] (lit< tt) tt, digits_free 64 n [] (lit< tt) tt)

-- so is what an operation tells
value-IsWord : (v : Value) → IsWord (word_of_value v)
value-IsWord value.Done = word_from_test (codes "ok") refl
value-IsWord (value.Number n) = number-word n
value-IsWord (value.Call a d) = (
  free-append SPACE (number a ++ codes ":") (number d) (free-append SPACE (number a) (codes ":") (number-word a).0 (refl, tt)) (number-word d).0,
  free-append LINE_FEED (number a ++ codes ":") (number d) (free-append LINE_FEED (number a) (codes ":") (number-word a).1 (refl, tt)) (number-word d).1,
)
value-IsWord value.Nothing = word_from_test (codes "none") refl
value-IsWord value.First = word_from_test (codes "first") refl
value-IsWord value.Second = word_from_test (codes "second") refl

-- and why one is declined
decline-IsWord : (why : Decline) → IsWord (decline_word why)
decline-IsWord decline.Exists = word_from_test (codes "exists") refl
decline-IsWord decline.Absent = word_from_test (codes "absent") refl
decline-IsWord decline.Cash = word_from_test (codes "cash") refl
decline-IsWord decline.Held = word_from_test (codes "held") refl
decline-IsWord decline.Limit = word_from_test (codes "limit") refl
decline-IsWord decline.Same = word_from_test (codes "same") refl
decline-IsWord decline.Price = word_from_test (codes "price") refl
decline-IsWord decline.Quantity = word_from_test (codes "quantity") refl
decline-IsWord decline.Queue = word_from_test (codes "queue") refl

values-are_words : (values : List Value) → AllByRecursion IsWord (map word_of_value values)
values-are_words [] = tt
values-are_words (v ∷ values) = (value-IsWord v, values-are_words values)

-- the words of a reply
reply-are_words : (r : Reply) → AllByRecursion IsWord (reply_words r)
reply-are_words (reply.Done values) = (word_from_test (codes "done") refl, values-are_words values)
reply-are_words (reply.Declined k why) = (word_from_test (codes "declined") refl, (number-word k, (decline-IsWord why, tt)))
reply-are_words (reply.Full k) = (word_from_test (codes "full") refl, (number-word k, tt))

-- the words of the line of a script
abbrev pub journal_words : ℕ → List ℕ → Ran → List (List ℕ)
journal_words serial name ran = number serial ∷ name ∷ number (ran.place.index + 1) ∷ number ran.restarts ∷ reply_words ran.reply

pub journal-AreWords : (serial : ℕ) (name : List ℕ) (ran : Ran) → IsName name → AreWords (journal_words serial name ran)
journal-AreWords serial name ran named = record {
  some = omega arith;
  each = (
    number-word serial,
    (
      (caller-AreWords name named).each.1.0,
      (number-word (ran.place.index + 1), (number-word ran.restarts, reply-are_words ran.reply)),
    ),
  );
}

-- it is one line
journal_row : (serial : ℕ) (name : List ℕ) (ran : Ran) → IsName name → IsRow (journal_line reply_words serial name ran)
journal_row serial name ran named = (journal_words serial name ran, journal-AreWords serial name ran named, refl)

-- a caller of an input has a name
pub caller_named : {input : ClearingInput} → IsInput input → {c : ℕ} → c < length input.callers → IsName (caller_at input.callers c).name
caller_named valid {c} within = valid.callers.names c (record { name = []; scripts = [] }) within

-- what holds of two lists holds of both together
pub all_both : {A : Type 0} (P : A → Type 0) (xs ys : List A) → AllByRecursion P xs → AllByRecursion P ys → AllByRecursion P (xs ++ ys)
all_both P [] ys p q = q
all_both P (x ∷ xs) ys p q = (p.0, all_both P xs ys p.1 q)

-- and what holds of both together holds of the first
pub all_first : {A : Type 0} (P : A → Type 0) (xs ys : List A) → AllByRecursion P (xs ++ ys) → AllByRecursion P xs
all_first P [] ys p = tt
all_first P (x ∷ xs) ys p = (p.0, all_first P xs ys p.1)

-- each of some lines is one line
map_rows : {A : Type 0} (f : A → List ℕ) → ((x : A) → IsRow (f x)) → (xs : List A) → AllByRecursion IsRow (map f xs)
map_rows f is [] = tt
map_rows f is (x ∷ xs) = (is x, map_rows f is xs)

header_row : (b : ClearingBooks) → IsRow (header_line Two b)
header_row b = (
  header_words Two b,
  record {
    some = omega arith;
    each = (
      word_from_test (codes "books") refl,
      (
        word_from_test (codes "2") refl,
        (
          word_from_test (codes "blocks") refl,
          (
            number-word b.blocks,
            (
              word_from_test (codes "instruments") refl,
              (number-word b.instruments, (word_from_test (codes "ring") refl, (number-word b.ring, tt))),
            ),
          ),
        ),
      ),
    );
  },
  refl,
)

account_row : (e : ℕ × ℕ) → IsRow (account_line e)
account_row e = (account_words e, record { some = omega arith; each = (word_from_test (codes "account") refl, (number-word e.0, (number-word e.1, tt))) }, refl)

price_row : (e : ℕ × ℕ) → IsRow (price_line e)
price_row e = (price_words e, record { some = omega arith; each = (word_from_test (codes "price") refl, (number-word e.0, (number-word e.1, tt))) }, refl)

position_row : (e : (ℕ × ℕ) × ℕ) → IsRow (position_line e)
position_row e = (
  position_words e,
  record {
    some = omega arith;
    each =
        (word_from_test (codes "position") refl, (number-word e.0.0, (number-word e.0.1, (number-word e.1, tt))));
  },
  refl,
)

call_row : (e : ℕ × ℕ) → IsRow (call_line e)
call_row e = (call_words e, record { some = omega arith; each = (word_from_test (codes "call") refl, (number-word e.0, (number-word e.1, tt))) }, refl)

only_row : (word : List ℕ) → IsWord word → IsRow (line (word ∷ []))
only_row word is = (word ∷ [], record { some = omega arith; each = (is, tt) }, refl)

-- the first line of an output
pub title_row : IsRow (line (codes "journal" ∷ []))
title_row = only_row (codes "journal") (word_from_test (codes "journal") refl)

-- the lines of closing books
pub closing_rows : (b : ClearingBooks) → AllByRecursion IsRow (closing_lines b)
closing_rows b = (
  header_row b,
  all_both IsRow _ _ (map_rows account_line account_row (finmap.entries b.accounts))
      (all_both IsRow _ _ (map_rows price_line price_row (finmap.entries b.prices))
      (all_both IsRow _ _ (map_rows position_line position_row (finmap.entries b.positions))
      (all_both IsRow _ _ (map_rows call_line call_row b.calls) (only_row (codes "finish") (word_from_test (codes "finish") refl), tt)))),
)

module _ {input : ClearingInput} (limit : ℕ) (valid : IsInput input) where
  -- the lines of scripts in turn
  pub journal_rows : (before scripts : List Ran) (serial : ℕ) → FollowInTurn input limit before scripts
      → AllByRecursion IsRow (journal_as_lines input serial scripts)
  journal_rows before [] serial t = tt
  journal_rows before (ran ∷ scripts) serial t = (
    journal_row serial (caller_at input.callers ran.place.caller).name ran (caller_named valid t.0.next.left.0),
    journal_rows (before ++ ran ∷ []) scripts (serial + 1) t.1,
  )

  -- and those behind them
  behind_rows : (scripts : List Ran) → AllByRecursion IsRow (lines_behind input scripts)
  behind_rows scripts = by (length scripts == count_scripts input.callers)
    where
      by : (all : Bool) → AllByRecursion IsRow (if all then closing_lines (books_after input input.books (places_run scripts)) else [])
      by true = closing_rows (books_after input input.books (places_run scripts))
      by false = tt

  -- the lines of an output
  pub output_rows : (scripts : List Ran) → FollowInTurn input limit [] scripts → AllByRecursion IsRow (output_lines input scripts)
  output_rows scripts t = (
    title_row,
    all_both IsRow (journal_as_lines input 1 scripts) (lines_behind input scripts)
        (journal_rows [] scripts 1 t) (behind_rows scripts),
  )

-- behind all scripts stand the closing lines
pub behind_all : (input : ClearingInput) (scripts : List Ran) → length scripts ≡ count_scripts input.callers
    → lines_behind input scripts ≡ closing_lines (books_after input input.books (places_run scripts))
behind_all input scripts all =
    ap (λ b. if b then closing_lines (books_after input input.books (places_run scripts)) else []) (eq-eqb (length scripts) (count_scripts input.callers) all)

-- and none as long as one is left
pub behind_some : (input : ClearingInput) (scripts : List Ran) → length scripts < count_scripts input.callers → lines_behind input scripts ≡ []
behind_some input scripts less =
    ap (λ b. if b then closing_lines (books_after input input.books (places_run scripts)) else [])
    (ne_eqb (length scripts) (count_scripts input.callers) (λ same. omega (arith, same, less)))

-- the texts of two lists of lines together
pub concat-both : (xs ys : List (List ℕ)) → concat (xs ++ ys) ≡ concat xs ++ concat ys
concat-both [] ys = refl
concat-both (x ∷ xs) ys = simp (concat-both xs ys, append_assoc)

-- the text of some lines, and what follows it
concat_map : {A : Type 0} (f : A → List ℕ) (xs : List A) (ys : List (List ℕ)) → concat (map f xs ++ ys) ≡ flat_map f xs ++ concat ys
concat_map f [] ys = refl
concat_map f (x ∷ xs) ys = simp (concat_map f xs ys, append_assoc)

-- the text of closing books
pub closing_text : (b : ClearingBooks) → concat (closing_lines b) ≡ books_lines Two b ++ finish_line
closing_text b =
    let accounts = flat_map account_line (finmap.entries b.accounts) in
    let prices = flat_map price_line (finmap.entries b.prices) in
    let positions = flat_map position_line (finmap.entries b.positions) in
    let calls = flat_map call_line b.calls in
    ap (λ l. header_line Two b ++ l) (
    concat_map account_line (finmap.entries b.accounts) _
    ∙ ap (λ l. accounts ++ l) (
    concat_map price_line (finmap.entries b.prices) _
    ∙ ap (λ l. prices ++ l) (
    concat_map position_line (finmap.entries b.positions) _
    ∙ ap (λ l. positions ++ l) (
    concat_map call_line b.calls _ ∙ ap (λ l. calls ++ l) (append-nil finish_line)))))
    ∙ sym (grouped (header_line Two b) accounts prices positions calls finish_line)
  where
    grouped : (h a p q c f : List ℕ) → ((((h ++ a) ++ p) ++ q) ++ c) ++ f ≡ h ++ (a ++ (p ++ (q ++ (c ++ f))))
    grouped h a p q c f = simp append_assoc

-- the text of a journal's lines
journal_text : (input : ClearingInput) (serial : ℕ) (scripts : List Ran)
    → concat (journal_as_lines input serial scripts) ≡ journal_lines reply_words input.callers serial scripts
journal_text input serial [] = refl
journal_text input serial (ran ∷ scripts) =
    ap (λ l. journal_line reply_words serial (caller_at input.callers ran.place.caller).name ran ++ l) (journal_text input (serial + 1) scripts)

-- all lines of an output are its text
pub output_text : (input : ClearingInput) (scripts : List Ran) → length scripts ≡ count_scripts input.callers
    → concat (output_lines input scripts) ≡ output_of input scripts
output_text input scripts all =
    let title = line (codes "journal" ∷ []) in
    let journal = journal_lines reply_words input.callers 1 scripts in
    let books = books_lines Two (books_after input input.books (places_run scripts)) in
    ap (λ l. title ++ l) (
    concat-both (journal_as_lines input 1 scripts) (lines_behind input scripts)
    ∙ (λ i. journal_text input 1 scripts i ++ (ap concat (behind_all input scripts all) ∙ closing_text (books_after input input.books (places_run scripts))) i))
    ∙ sym (append_assoc (title ++ journal) books finish_line ∙ append_assoc title journal (books ++ finish_line))
