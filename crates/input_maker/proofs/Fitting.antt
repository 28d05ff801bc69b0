-- A generated text is small enough to be read.
use Rattle.input_maker.proofs.Common.{◌≡◌, ℕ, Bool, ◌+◌, ◌*◌, ◌%◌, ◌<◌, ◌≤◌, List, [], ◌∷◌, ◌++◌, codes, map, length, refl, ap, length-append, arith}
use Rattle.input_maker.proofs.Common.{AllByRecursion, flat_map, range_with_len, length-map-range_with_len, Op, Part, operations_of, AllByRecursion-weaker}
use Rattle.input_maker.proofs.Common.{sum_by-most, One, line, header_line, account_line, price_line, position_line, books_lines, books_operation_words}
use Rattle.input_maker.proofs.Common.{script_lines, end_line, Submission, submission_lines, made_books, positions_to, state_of_script, made_submission}
use Rattle.books_report.proofs.Common.{number, finish_line}
use Rattle.script_reader.proofs.Common.{scripts_line}
use Rattle.std.specs.List.{join_with_byte}
use Rattle.std.proofs.lemmas.Fmt.{length-decimal-le}
use Rattle.std.proofs.lemmas.List.Concat.{length-flat_map}
use Rattle.input_maker.proofs.Listing.{lines_alone}
use Rattle.script_reader.specs.declared.text.words.TheConstants.{SPACE, LINE_FEED}
use Rattle.input_maker.specs.Made.{accounts_to, prices_to, caller_name, submissions_to}
use Rattle.input_maker.specs.Statements.{MadeInputsFit}
use Rattle.input_maker.proofs.Opening.{all_mapped, accounts_length, prices_length, positions_length, IsPosition, positions_hold, opening_lines}
use Rattle.input_maker.proofs.Making.{IsMade, IsMadeOnce, made_deposit, made_price, made_next, made_sum, made_move, made_trade, made_margin, made_show}
use Rattle.input_maker.proofs.Making.{script_made}

-- the bytes of words, with one behind each
abbrev size_of : List (List ℕ) → ℕ
size_of [] = 0
size_of (word ∷ words) = length word + 1 + size_of words

size_more : (word : List ℕ) (words : List (List ℕ)) → size_of (word ∷ words) ≡ length word + 1 + size_of words
size_more word words = refl

joined : (word : List ℕ) (words : List (List ℕ)) → length (join_with_byte SPACE (word ∷ words)) + 1 ≡ size_of (word ∷ words)
joined word [] =
    let one : length (join_with_byte SPACE (word ∷ [])) ≡ length word = refl in
    let none : size_of [] ≡ 0 = refl in
    omega (arith, one, none, size_more word [])
joined word (next ∷ words) =
    let rest : List ℕ = join_with_byte SPACE (next ∷ words) in
    let more : length (join_with_byte SPACE (word ∷ next ∷ words)) ≡ length (word ++ SPACE ∷ rest) = refl in
    let space : length (SPACE ∷ rest) ≡ length rest + 1 = omega arith in
    omega (arith, more, space, length-append word (SPACE ∷ rest), joined next words, size_more word (next ∷ words))

-- a line is as long as its words, with one byte behind each
line_length : (word : List ℕ) (words : List (List ℕ)) → length (line (word ∷ words)) ≡ size_of (word ∷ words)
line_length word words =
    let last : length (LINE_FEED ∷ []) ≡ 1 = refl in
    omega (arith, last, length-append (join_with_byte SPACE (word ∷ words)) (LINE_FEED ∷ []), joined word words)

line1 : (k : List ℕ) → length (line (k ∷ [])) ≡ length k + 1
line1 k = let e : size_of (k ∷ []) ≡ length k + 1 + 0 = refl in omega (arith, e, line_length k [])

line2 : (k u : List ℕ) → length (line (k ∷ u ∷ [])) ≡ length k + length u + 2
line2 k u = let e : size_of (k ∷ u ∷ []) ≡ length k + 1 + (length u + 1 + 0) = refl in omega (arith, e, line_length k (u ∷ []))

line3 : (k u v : List ℕ) → length (line (k ∷ u ∷ v ∷ [])) ≡ length k + length u + length v + 3
line3 k u v = let e : size_of (k ∷ u ∷ v ∷ []) ≡ length k + 1 + (length u + 1 + (length v + 1 + 0)) = refl in omega (arith, e, line_length k (u ∷ v ∷ []))

line4 : (k u v w : List ℕ) → length (line (k ∷ u ∷ v ∷ w ∷ [])) ≡ length k + length u + length v + length w + 4
line4 k u v w =
    let e : size_of (k ∷ u ∷ v ∷ w ∷ []) ≡ length k + 1 + (length u + 1 + (length v + 1 + (length w + 1 + 0))) = refl in
    omega (arith, e, line_length k (u ∷ v ∷ w ∷ []))

line5 : (k u v w x : List ℕ) → length (line (k ∷ u ∷ v ∷ w ∷ x ∷ [])) ≡ length k + length u + length v + length w + length x + 5
line5 k u v w x =
    let e : size_of (k ∷ u ∷ v ∷ w ∷ x ∷ []) ≡ length k + 1 + (length u + 1 + (length v + 1 + (length w + 1 + (length x + 1 + 0)))) = refl in
    omega (arith, e, line_length k (u ∷ v ∷ w ∷ x ∷ []))

-- three lists in a row, and four, are no longer than their bounds together
row3 : (a b c : List ℕ) {k l m : ℕ} → length a ≤ k → length b ≤ l → length c ≤ m → length (a ++ b ++ c) ≤ k + l + m
row3 a b c p q r = omega (arith, p, q, r, length-append (a ++ b) c, length-append a b)

row4 : (a b c d : List ℕ) {k l m n : ℕ} → length a ≤ k → length b ≤ l → length c ≤ m → length d ≤ n → length (a ++ b ++ c ++ d) ≤ k + l + m + n
row4 a b c d p q r s = omega (arith, s, row3 a b c p q r, length-append (a ++ b ++ c) d)

-- a number of a generated text has few digits
three : (n : ℕ) → n < 1000 → length (number n) ≤ 3
three n few = length-decimal-le 3 n (omega arith) few (omega (arith, few))

four : (n : ℕ) → n < 10000 → length (number n) ≤ 4
four n few = length-decimal-le 4 n (omega arith) few (omega (arith, few))

seven : (n : ℕ) → n < 10000000 → length (number n) ≤ 7
seven n few = length-decimal-le 7 n (omega arith) few (omega (arith, few))

-- lines of which each is so long at most
lines_most : {X : Type 0} (write : X → List ℕ) (most : ℕ) (xs : List X)
    → AllByRecursion (λ x. length (write x) ≤ most) xs → length (flat_map write xs) ≤ length xs * most
lines_most write most xs each = omega (arith, length-flat_map write xs, sum_by-most (λ x. length (write x)) most xs each)

-- the line of an operation
operation_short : (first : Bool) (o : Op) → IsMade first o → length (line (books_operation_words o)) ≤ 26
operation_short first o (made_deposit a x account amount) =
    let k : length (codes "deposit") ≡ 7 = refl in
    omega (arith, k, line3 (codes "deposit") (number a) (number x), three a (omega (arith, account.1)), three x (omega (arith, amount.1)))
operation_short first o (made_price i p instrument price) =
    let k : length (codes "price") ≡ 5 = refl in
    omega (arith, k, line3 (codes "price") (number i) (number p), three i (omega (arith, instrument.1)), four p (omega (arith, price.1)))
operation_short first o made_next = let k : length (codes "next") ≡ 4 = refl in omega (arith, k, line1 (codes "next"))
operation_short first o (made_sum a b from to) =
    let k : length (codes "sum") ≡ 3 = refl in
    omega (arith, k, line3 (codes "sum") (number a) (number b), three a (omega (arith, from.1)), three b (omega (arith, to.1)))
operation_short first o (made_move a b x payer payee amount) =
    let k : length (codes "move") ≡ 4 = refl in
    omega (
      arith,
      k,
      line4 (codes "move") (number a) (number b) (number x),
      three a (omega (arith, payer.1)),
      three b (omega (arith, payee.1)),
      three x (omega (arith, amount.1)),
    )
operation_short first o (made_trade a b i q buyer seller instrument quantity) =
    let k : length (codes "trade") ≡ 5 = refl in
    let five = line5 (codes "trade") (number a) (number b) (number i) (number q) in
    omega (
      arith,
      k,
      five,
      three a (omega (arith, buyer.1)),
      three b (omega (arith, seller.1)),
      three i (omega (arith, instrument.1)),
      three q (omega (arith, quantity.1)),
    )
operation_short first o (made_margin a m account rate) =
    let k : length (codes "margin") ≡ 6 = refl in
    omega (arith, k, line3 (codes "margin") (number a) (number m), three a (omega (arith, account.1)), three m (omega (arith, rate.1)))
operation_short first o (made_show a account) = let k : length (codes "show") ≡ 4 = refl in
    omega (arith, k, line2 (codes "show") (number a), three a (omega (arith, account.1)))

-- those of a script
script_short : (script : List Part) → IsMadeOnce script → length (script_lines script) ≤ 78
script_short script (first, made) =
    let ops = operations_of script in
    let each = AllByRecursion-weaker (IsMade first) (λ o. length (line (books_operation_words o)) ≤ 26) (operation_short first) ops made.each in
    omega (
      arith,
      made.few,
      lines_most (λ o. line (books_operation_words o)) 26 ops each,
      ap (λ parts. length (script_lines parts)) made.alone,
      ap length
          (lines_alone ops),
    )

name_length : (c : ℕ) → length (caller_name c) ≡ 4
unfolding caller_name
name_length c = refl

-- and all its lines
submission_short : (seed callers n : ℕ) → length (submission_lines (made_submission seed callers n)) ≤ 100
submission_short seed callers n =
    let s : Submission = made_submission seed callers n in
    let begins : List ℕ = line (codes "script" ∷ s.caller ∷ []) in
    let k : length (codes "script") ≡ 6 = refl in
    let head : length begins ≤ 12 = omega (arith, k, line2 (codes "script") s.caller, name_length (n % callers)) in
    let end : length end_line ≤ 4 = omega arith in
    let all = row3 begins (script_lines s.script) end_line head (script_short s.script (script_made (state_of_script seed n))) end in
    omega (arith, all)

submissions_short : (seed callers n : ℕ) → length (flat_map submission_lines (submissions_to seed callers n)) ≤ n * 100
unfolding submissions_to
submissions_short seed callers n =
    let scripts : List Submission = map (made_submission seed callers) (range_with_len 0 n) in
    let each = all_mapped (λ s. length (submission_lines s) ≤ 100) (made_submission seed callers) 0 n (λ k low high. submission_short seed callers k) in
    omega (arith, length-map-range_with_len (made_submission seed callers) 0 n, lines_most submission_lines 100 scripts each)

account_short : (a cash : ℕ) → a ≤ 200 → cash ≤ 1000000 → length (account_line (a, cash)) ≤ 20
account_short a cash few most =
    let k : length (codes "account") ≡ 7 = refl in
    omega (arith, k, line3 (codes "account") (number a) (number cash), three a (omega (arith, few)), seven cash (omega (arith, most)))

price_short : (i price : ℕ) → i ≤ 8 → price ≤ 800 → length (price_line (i, price)) ≤ 15
price_short i price few most =
    let k : length (codes "price") ≡ 5 = refl in
    omega (arith, k, line3 (codes "price") (number i) (number price), three i (omega (arith, few)), three price (omega (arith, most)))

position_short : {a i : ℕ} (quantity : ℕ) → a ≤ 200 → i ≤ 8 → quantity ≤ 100 → length (position_line ((a, i), quantity)) ≤ 22
position_short {a} {i} quantity few less most =
    let k : length (codes "position") ≡ 8 = refl in
    omega (
      arith,
      k,
      line4 (codes "position") (number a) (number i) (number quantity),
      three a (omega (arith, few)),
      three i (omega (arith, less)),
      three quantity (omega (arith, most)),
    )

accounts_short : length (flat_map account_line (accounts_to 200)) ≤ 4000
unfolding accounts_to
accounts_short =
    let each = all_mapped {X = ℕ × ℕ} (λ e. length (account_line e) ≤ 20) (λ a. (a, 1000000)) 1 200 (λ a low high.
    account_short a 1000000 (omega (arith, high)) (omega arith)) in
    omega (arith, accounts_length, lines_most account_line 20 (accounts_to 200) each)

prices_short : length (flat_map price_line (prices_to 8)) ≤ 120
unfolding prices_to
prices_short =
    let each = all_mapped {X = ℕ × ℕ} (λ e. length (price_line e) ≤ 15) (λ i. (i, 100 * i)) 1 8 (λ i low high.
    price_short i (100 * i) (omega (arith, high)) (omega (arith, high))) in
    omega (arith, prices_length, lines_most price_line 15 (prices_to 8) each)

positions_short : length (flat_map position_line (positions_to 200)) ≤ 35200
positions_short =
    let each =
    AllByRecursion-weaker (λ e. IsPosition e.0 e.1) (λ e. length (position_line e) ≤ 22)
    (λ e h. position_short e.1 h.0.1 h.1.1 (omega (arith, h.2))) (positions_to 200) positions_hold in
    omega (arith, positions_length, lines_most position_line 22 (positions_to 200) each)

header_short : length (header_line One made_books) ≤ 60
header_short =
    let words : List (List ℕ) = codes "1" ∷ codes "blocks" ∷ number 4096 ∷ codes "instruments" ∷ number 8 ∷ codes "ring" ∷ number 64 ∷ [] in
    let sizes : size_of (codes "books" ∷ words)
    ≡ 5 + 1 + (1 + 1 + (6 + 1 + (length (number 4096) + 1 + (11 + 1 + (length (number 8) + 1 + (4 + 1 + (length (number 64) + 1 + 0))))))) = refl in
    omega (arith, sizes, line_length (codes "books") words, four 4096 (omega arith), four 8 (omega arith), four 64 (omega arith))

books_short : length (books_lines One made_books) ≤ 40000
books_short =
    let accounts : List ℕ = flat_map account_line (accounts_to 200) in
    let prices : List ℕ = flat_map price_line (prices_to 8) in
    let positions : List ℕ = flat_map position_line (positions_to 200) in
    let all = row4 (header_line One made_books) accounts prices positions header_short accounts_short prices_short positions_short in
    let same : length (books_lines One made_books) ≡ length (header_line One made_books ++ accounts ++ prices ++ positions) = ap length opening_lines in
    omega (arith, all, same)

pub made_inputs_fit : MadeInputsFit
made_inputs_fit seed callers scripts range =
    let n : ℕ = callers * scripts in
    let written : List ℕ = flat_map submission_lines (submissions_to seed callers n) in
    let begins : length scripts_line ≤ 8 = omega arith in
    let ends : length finish_line ≤ 7 = omega arith in
    let all = row4 (books_lines One made_books) scripts_line written finish_line books_short begins
    (submissions_short seed callers n) ends in
    omega (arith, range.few, all)
