-- The operations of a script: what is to be known of each, said once.
use Rattle.script_reader.proofs.Common.{lit<, ◌≡◌, ◌⊎◌, inl, inr, ℕ, ◌<◌, ◌≤◌, ◌^◌, Bool, true, false, ◌&&◌, ◌||◌, ◌==◌, cond, if◌then◌else◌, List, [], ◌∷◌}
use Rattle.script_reader.proofs.Common.{◌++◌, codes, length, drop, map, slice_index_or, Option, Some, refl, sym, ap, subst, ◌∙◌, arith, list_any}
use Rattle.script_reader.proofs.Common.{AllByRecursion, is_none, bytes_eq, ClearingBooks, IsWithin, GREATEST_ACCOUNT, GREATEST_AMOUNT, GREATEST_PRICE}
use Rattle.script_reader.proofs.Common.{GREATEST_RATE, Op, Version, Two, ClearingInput, greatest_amount, AreWords, word_at, number, books_operation_words}
use Rattle.script_reader.proofs.Common.{Words, Form, form, accounts, amounts, prices, quantities, operation_forms, begins, is_only, has_form, form_of}
use Rattle.script_reader.proofs.Common.{ranges_of, value_of, are_numbers, are_in_range, is_turning, AreNumbersIn, is_word, IsOperationOf}
use Rattle.books_model.proofs.Common.{IsAccountNumber, IsInstrumentOf, IsOperationFor}
use Rattle.script_reader.specs.Input.{IsInput}
use Rattle.script_reader.specs.Versions.{amount_of, IsInputWithin}
use Rattle.script_reader.proofs.Conditions.{neither}
use Rattle.script_reader.proofs.text.Tokens.Cutting.{word_from_test}
use Rattle.script_reader.proofs.LineFaults.LineKinds.{IsOneOf, one_of, behind_keyword}
use Rattle.script_reader.proofs.language.Listed.Numbers.{texts_are_words, values_are, numbers_at, both_in, three_in}
use Rattle.script_reader.proofs.books.Versions.{amount_small, amount_for}
use Rattle.books_model.specs.declared.script.Op.TheVariants as op

-- the first words of the other lines behind books
abbrev other_words : List (List ℕ)
other_words = codes "script" ∷ codes "end" ∷ codes "try" ∷ codes "else" ∷ codes "done" ∷ codes "finish" ∷ []

-- an operation begins with none of them
begins_no_other : (o : Op) → list_any (λ k. begins k (books_operation_words o)) other_words ≡ false
begins_no_other (op.OpenAccount a) = refl
begins_no_other (op.Close a) = refl
begins_no_other (op.Deposit a x) = refl
begins_no_other (op.Withdraw a x) = refl
begins_no_other (op.Move a b x) = refl
begins_no_other (op.Price i q) = refl
begins_no_other (op.Trade a b i q) = refl
begins_no_other (op.Margin a m) = refl
begins_no_other op.Next = refl
begins_no_other (op.Show a) = refl
begins_no_other (op.Sum a b) = refl

-- so it is none of these lines
none_any : {A : Type 0} (t : A → Bool) (xs : List A) → list_any t xs ≡ false → AllByRecursion (λ x. t x ≡ false) xs
none_any t [] h = tt
none_any t (x ∷ xs) h = let parts = neither h in (parts.0, none_any t xs parts.1)

no_other : (o : Op) → AllByRecursion (λ k. begins k (books_operation_words o) ≡ false) other_words
no_other o = none_any (λ k. begins k (books_operation_words o)) other_words (begins_no_other o)

not_only : (k : List ℕ) (words : Words) → begins k words ≡ false → is_only k words ≡ false
not_only k words h = ap (λ b. b && length words == 1) h

pub no_script : (o : Op) → begins (codes "script") (books_operation_words o) ≡ false
no_script o = (no_other o).0

pub no_end : (o : Op) → is_only (codes "end") (books_operation_words o) ≡ false
no_end o = not_only (codes "end") (books_operation_words o) (no_other o).1.0

pub no_try : (o : Op) → is_only (codes "try") (books_operation_words o) ≡ false
no_try o = not_only (codes "try") (books_operation_words o) (no_other o).1.1.0

pub no_else : (o : Op) → is_only (codes "else") (books_operation_words o) ≡ false
no_else o = not_only (codes "else") (books_operation_words o) (no_other o).1.1.1.0

pub no_done : (o : Op) → is_only (codes "done") (books_operation_words o) ≡ false
no_done o = not_only (codes "done") (books_operation_words o) (no_other o).1.1.1.1.0

pub no_finish : (o : Op) → is_only (codes "finish") (books_operation_words o) ≡ false
no_finish o = not_only (codes "finish") (books_operation_words o) (no_other o).1.1.1.1.1.0

pub no_turning : (o : Op) → is_turning (books_operation_words o) ≡ false
no_turning o i = no_end o i || no_try o i || no_else o i || no_done o i

-- an operation without an amount, and those with one
pub free : {P Q : Type 0} {n : ℕ} → P × Q → (P × (0 ≤ n)) × Q
free h = ((h.0, omega arith), h.1)

pub bound : (version : Version) {a x : ℕ} {Q : Type 0} → (IsAccountNumber a × IsWithin 1 (greatest_amount version) x) × Q
    → ((IsAccountNumber a × IsWithin 1 GREATEST_AMOUNT x) × (x ≤ greatest_amount version)) × Q
bound version h = (((h.0.0, amount_for version h.0.1), h.0.1.1), h.1)

pub bound_move : (version : Version) {a b x : ℕ} {Q : Type 0} → (IsAccountNumber a × IsAccountNumber b × IsWithin 1 (greatest_amount version) x) × Q
    → ((IsAccountNumber a × IsAccountNumber b × IsWithin 1 GREATEST_AMOUNT x) × (x ≤ greatest_amount version)) × Q
bound_move version h = (((h.0.0, h.0.1, amount_for version h.0.2), h.0.2.1), h.1)

-- the operation of a word and the numbers behind it
abbrev operation_with : List ℕ → List ℕ → Op
operation_with k ns =
    let n : ℕ → ℕ = λ i. slice_index_or ns i 0 in
    if bytes_eq k (codes "open") then op.OpenAccount (n 0)
    else (if bytes_eq k (codes "close") then op.Close (n 0)
    else (if bytes_eq k (codes "deposit") then op.Deposit (n 0) (n 1)
    else (if bytes_eq k (codes "withdraw") then op.Withdraw (n 0) (n 1)
    else (if bytes_eq k (codes "move") then op.Move (n 0) (n 1) (n 2)
    else (if bytes_eq k (codes "price") then op.Price (n 0) (n 1)
    else (if bytes_eq k (codes "trade") then op.Trade (n 0) (n 1) (n 2) (n 3)
    else (if bytes_eq k (codes "margin") then op.Margin (n 0) (n 1)
    else (if bytes_eq k (codes "show") then op.Show (n 0)
    else (if bytes_eq k (codes "sum") then op.Sum (n 0) (n 1)
    else op.Next)))))))))

-- the first of some forms that a line has, or one of others
formed : (P : Form → Type 0) (forms others : List Form) (words : Words) → AllByRecursion P forms → is_none (form_of (forms ++ others) words) ≡ false
    → IsOneOf others words ⊎ ((kind : Form) × (form_of (forms ++ others) words ≡ Some kind) × P kind × (has_form words kind ≡ true))
formed P [] others words all h = inl (one_of others words h)
formed P (f ∷ forms) others words all h = by (has_form words f) refl h (formed P forms others words all.1)
  where
    by : (b : Bool) → has_form words f ≡ b → is_none (cond b (Some f) (form_of (forms ++ others) words)) ≡ false
        → (is_none (form_of (forms ++ others) words) ≡ false
        → IsOneOf others words ⊎ ((kind : Form) × (form_of (forms ++ others) words ≡ Some kind) × P kind × (has_form words kind ≡ true)))
        → IsOneOf others words ⊎ ((kind : Form) × (form_of (f ∷ forms ++ others) words ≡ Some kind) × P kind × (has_form words kind ≡ true))
    by true e g rest = inr (f, ap (λ b. cond b (Some f) (form_of (forms ++ others) words)) e, all.0, e)
    by false e g rest = elim (rest g) [
      | inl other ↦ inl other
      | inr found ↦ inr (found.0, ap (λ b. cond b (Some f) (form_of (forms ++ others) words)) e ∙ found.1, found.2, found.3)
    ]

module _ (P : List ℕ → Type 0) where
  -- what holds of so many numbers in their ranges
  for_none : P [] → (ns : List ℕ) → AreNumbersIn [] ns → P ns
  for_none each [] h = each
  for_none each (n ∷ ns) h = absurd h

  for_one : (r : ℕ × ℕ) → ((a : ℕ) → IsWithin r.0 r.1 a → P (a ∷ [])) → (ns : List ℕ) → AreNumbersIn (r ∷ []) ns → P ns
  for_one r each [] h = absurd h
  for_one r each (a ∷ []) h = each a (h.0, h.1)
  for_one r each (a ∷ b ∷ ns) h = absurd h.3

for_two : (P : List ℕ → Type 0) (r s : ℕ × ℕ) → ((a b : ℕ) → IsWithin r.0 r.1 a × IsWithin s.0 s.1 b → P (a ∷ b ∷ []))
    → (ns : List ℕ) → AreNumbersIn (r ∷ s ∷ []) ns → P ns
for_two P r s each [] h = absurd h
for_two P r s each (a ∷ ns) h = for_one (λ ns. P (a ∷ ns)) s (λ b g. each a b ((h.0, h.1), g)) ns h.3

for_three : (P : List ℕ → Type 0) (r s t : ℕ × ℕ) → ((a b c : ℕ) → IsWithin r.0 r.1 a × IsWithin s.0 s.1 b × IsWithin t.0 t.1 c → P (a ∷ b ∷ c ∷ []))
    → (ns : List ℕ) → AreNumbersIn (r ∷ s ∷ t ∷ []) ns → P ns
for_three P r s t each [] h = absurd h
for_three P r s t each (a ∷ ns) h = for_two (λ ns. P (a ∷ ns)) s t (λ b c g. each a b c ((h.0, h.1), g.0, g.1)) ns h.3

for_four : (P : List ℕ → Type 0) (r s t u : ℕ × ℕ)
    → ((a b c d : ℕ) → IsWithin r.0 r.1 a × IsWithin s.0 s.1 b × IsWithin t.0 t.1 c × IsWithin u.0 u.1 d → P (a ∷ b ∷ c ∷ d ∷ []))
    → (ns : List ℕ) → AreNumbersIn (r ∷ s ∷ t ∷ u ∷ []) ns → P ns
for_four P r s t u each [] h = absurd h
for_four P r s t u each (a ∷ ns) h = for_three (λ ns. P (a ∷ ns)) s t u (λ b c d g. each a b c d ((h.0, h.1), g.0, g.1, g.2)) ns h.3

module _ (version : Version) (books : ClearingBooks) where
  -- the numbers of an operation with this word
  abbrev IsOf : List ℕ → List ℕ → Type 0
  IsOf k ns = IsOperationOf version books (operation_with k ns) × (books_operation_words (operation_with k ns) ≡ k ∷ map number ns)

  -- a form of operations
  abbrev IsKind : Form → Type 0
  IsKind f = AllByRecursion (λ r. r.1 < 2 ^ 64) f.ranges × ((ns : List ℕ) → AreNumbersIn f.ranges ns → IsOf f.keyword ns)

  module _ (few : books.instruments < 2 ^ 64) where
    kinds : AllByRecursion IsKind (operation_forms version books.instruments)
    kinds =
        let account : (k : List ℕ) → ((a : ℕ) → IsWithin 1 GREATEST_ACCOUNT a → IsOf k (a ∷ [])) → IsKind (form k (accounts ∷ [])) =
        λ k each. ((lit< tt, tt), for_one (IsOf k) accounts each) in
        let paid : (k : List ℕ) → ((a x : ℕ) → IsWithin 1 GREATEST_ACCOUNT a × IsWithin 1 (greatest_amount version) x → IsOf k (a ∷ x ∷ []))
        → IsKind (form k (accounts ∷ amounts version ∷ [])) =
        λ k each. ((lit< tt, (amount_small version, tt)), for_two (IsOf k) accounts (amounts version) each) in
        let opens = account (codes "open") (λ a h. free (h, refl)) in
        let closes = account (codes "close") (λ a h. free (h, refl)) in
        let deposits = paid (codes "deposit") (λ a x h. bound version (h, refl)) in
        let withdraws = paid (codes "withdraw") (λ a x h. bound version (h, refl)) in
        let move : IsKind (form (codes "move") (accounts ∷ accounts ∷ amounts version ∷ [])) = (
          (lit< tt, (lit< tt, (amount_small version, tt))),
          for_three (IsOf (codes "move")) accounts accounts (amounts version) (λ a b x h. bound_move version (h, refl)),
        ) in
        let price : IsKind (form (codes "price") ((1, books.instruments) ∷ prices ∷ [])) =
        ((few, (lit< tt, tt)), for_two (IsOf (codes "price")) (1, books.instruments) prices (λ i p h. free (h, refl))) in
        let trade : IsKind (form (codes "trade") (accounts ∷ accounts ∷ (1, books.instruments) ∷ quantities ∷ [])) = (
          (lit< tt, (lit< tt, (few, (lit< tt, tt)))),
          for_four (IsOf (codes "trade")) accounts accounts (1, books.instruments) quantities (λ a b i q h. free (h, refl)),
        ) in
        let margin : IsKind (form (codes "margin") (accounts ∷ (1, GREATEST_RATE) ∷ [])) =
        ((lit< tt, (lit< tt, tt)), for_two (IsOf (codes "margin")) accounts (1, GREATEST_RATE) (λ a m h. free (h, refl))) in
        let next : IsKind (form (codes "next") []) = (tt, for_none (IsOf (codes "next")) (free (tt, refl))) in
        let shows = account (codes "show") (λ a h. free (h, refl)) in
        let sum : IsKind (form (codes "sum") (accounts ∷ accounts ∷ [])) =
        ((lit< tt, (lit< tt, tt)), for_two (IsOf (codes "sum")) accounts accounts (λ a b h. free (h, refl))) in
        (opens, (closes, (deposits, (withdraws, (move, (price, (trade, (margin, (next, (shows, (sum, tt)))))))))))

    -- the operation of a line of a script, unless it is one of other forms
    pub operation_line : (others : List Form) {words : Words}
        → is_none (form_of (operation_forms version books.instruments ++ others) words) ≡ false → are_numbers (drop 1 words) ≡ true
        → are_in_range (drop 1 words) (ranges_of (form_of (operation_forms version books.instruments ++ others) words)) ≡ true
        → IsOneOf others words ⊎ ((o : Op) × IsOperationOf version books o × (words ≡ books_operation_words o))
    operation_line others {words} h n r = elim (formed IsKind (operation_forms version books.instruments) others words kinds h) [
      | inl other ↦ inl other
      | inr found ↦
          let kind : Form = found.0 in
          let behind = behind_keyword kind.keyword (length kind.ranges) words found.3 in
          let read = numbers_at kind.ranges (drop 1 words) behind.1 found.2.0 n (sym (ap (λ f. are_in_range (drop 1 words) (ranges_of f)) found.1) ∙ r) in
          let is = found.2.1 (map value_of (drop 1 words)) read.0 in
          inr (operation_with kind.keyword (map value_of (drop 1 words)), is.0, behind.0 ∙ ap (λ ws. kind.keyword ∷ ws) read.1 ∙ sym is.1)
    ]

    module _ (others : List Form) where
      -- an operation as a line: its form, and its numbers in their ranges, by which it is told
      abbrev pub IsRow : Op → Type 0
      IsRow o = (kind : Form) × (ns : List ℕ)
          × ◌≡◌ {A = Words × Op × Bool × Option Form} (
            books_operation_words o,
            operation_with kind.keyword ns,
            is_word kind.keyword,
            form_of (operation_forms version books.instruments ++ others) (books_operation_words o),
          ) (kind.keyword ∷ map number ns, o, true, Some kind)
          × AreNumbersIn kind.ranges ns

      pub row : (o : Op) → IsOperationOf version books o → IsRow o
      row o within = by o within.0 within.1
        where
          paid : (a x : ℕ) → IsAccountNumber a → IsWithin 1 (greatest_amount version) x → AreNumbersIn (accounts ∷ amounts version ∷ []) (a ∷ x ∷ [])
          paid a x account amount = both_in accounts (amounts version) (account, amount) (lit< tt) (amount_small version)

          priced : (i p : ℕ) → IsInstrumentOf books i × IsWithin 1 GREATEST_PRICE p → AreNumbersIn ((1, books.instruments) ∷ prices ∷ []) (i ∷ p ∷ [])
          priced i p h = both_in (1, books.instruments) prices h few (lit< tt)

          margined : (a m : ℕ) → IsAccountNumber a × IsWithin 1 GREATEST_RATE m → AreNumbersIn (accounts ∷ (1, GREATEST_RATE) ∷ []) (a ∷ m ∷ [])
          margined a m h = both_in accounts (1, GREATEST_RATE) h (lit< tt) (lit< tt)

          by : (o : Op) → IsOperationFor books o → amount_of o ≤ greatest_amount version → IsRow o
          by (op.OpenAccount a) h fits = (form (codes "open") (accounts ∷ []), a ∷ [], refl, (h.0, h.1, omega (arith, h.1), tt))
          by (op.Close a) h fits = (form (codes "close") (accounts ∷ []), a ∷ [], refl, (h.0, h.1, omega (arith, h.1), tt))
          by (op.Deposit a x) h fits = (form (codes "deposit") (accounts ∷ amounts version ∷ []), a ∷ x ∷ [], refl, paid a x h.0 (h.1.0, fits))
          by (op.Withdraw a x) h fits = (form (codes "withdraw") (accounts ∷ amounts version ∷ []), a ∷ x ∷ [], refl, paid a x h.0 (h.1.0, fits))
          by (op.Move a b x) h fits = (
            form (codes "move") (accounts ∷ accounts ∷ amounts version ∷ []),
            a ∷ b ∷ x ∷ [],
            refl,
            three_in accounts accounts (amounts version) (h.0, h.1, (h.2.0, fits)) (lit< tt) (lit< tt) (amount_small version),
          )
          by (op.Price i p) h fits = (form (codes "price") ((1, books.instruments) ∷ prices ∷ []), i ∷ p ∷ [], refl, priced i p h)
          by (op.Trade a b i q) h fits = (
            form (codes "trade") (accounts ∷ accounts ∷ (1, books.instruments) ∷ quantities ∷ []),
            a ∷ b ∷ i ∷ q ∷ [],
            refl,
            (h.0.0, h.0.1, omega (arith, h.0.1), three_in accounts (1, books.instruments) quantities (h.1, h.2, h.3) (lit< tt) few (lit< tt)),
          )
          by (op.Margin a m) h fits = (form (codes "margin") (accounts ∷ (1, GREATEST_RATE) ∷ []), a ∷ m ∷ [], refl, margined a m h)
          by op.Next h fits = (form (codes "next") [], [], refl, tt)
          by (op.Show a) h fits = (form (codes "show") (accounts ∷ []), a ∷ [], refl, (h.0, h.1, omega (arith, h.1), tt))
          by (op.Sum a b) h fits = (form (codes "sum") (accounts ∷ accounts ∷ []), a ∷ b ∷ [], refl, both_in accounts accounts h (lit< tt) (lit< tt))

    -- its words are those of a line
    pub operation-AreWords : (o : Op) → IsOperationOf version books o → AreWords (books_operation_words o)
    operation-AreWords o h =
        let r = row [] o h in
        subst AreWords (sym (ap (λ t. t.0) r.2)) (record {
          some = omega arith;
          each = (word_from_test r.0.keyword (ap (λ t. t.2) r.2), texts_are_words r.0.ranges r.1 r.3);
        })

    -- it is told by them
    pub operation_once : (o q : Op) → IsOperationOf version books o → IsOperationOf version books q → books_operation_words o ≡ books_operation_words q → o ≡ q
    operation_once o q h k e = sym (told o h) ∙ ap operation_of e ∙ told q k
      where
        operation_of : Words → Op
        operation_of words = operation_with (word_at words 0) (map value_of (drop 1 words))

        told : (o : Op) → IsOperationOf version books o → operation_of (books_operation_words o) ≡ o
        told o h =
            let r = row [] o h in
            ap (λ t. operation_of t.0) r.2 ∙ ap (operation_with r.0.keyword) (values_are r.0.ranges r.1 r.3) ∙ ap (λ t. t.1) r.2

-- an operation of the language is one of version 2
amount_fits : (b : ClearingBooks) (o : Op) → IsOperationFor b o → amount_of o ≤ GREATEST_AMOUNT
amount_fits b (op.OpenAccount a) h = omega arith
amount_fits b (op.Close a) h = omega arith
amount_fits b (op.Deposit a x) h = h.1.1
amount_fits b (op.Withdraw a x) h = h.1.1
amount_fits b (op.Move a c x) h = h.2.1
amount_fits b (op.Price i p) h = omega arith
amount_fits b (op.Trade a c i q) h = omega arith
amount_fits b (op.Margin a m) h = omega arith
amount_fits b op.Next h = omega arith
amount_fits b (op.Show a) h = omega arith
amount_fits b (op.Sum a c) h = omega arith

-- each input is in the ranges of version 2
pub each_within_two : (input : ClearingInput) → IsInput input → IsInputWithin Two input
each_within_two input h = record {
  books = record { blocks = h.books.blocks.1; cash = λ a cash found. (h.books.accounts a cash found).1 };
  scripts = λ k d less i e low j o short. amount_fits input.books _ ((h.callers.scripts k d less i e low).each j o short);
}
