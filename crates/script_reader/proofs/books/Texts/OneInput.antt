-- A text is of one input at most.
use Rattle.script_reader.proofs.Common.{◌≡◌, ℕ, ◌<◌, ◌^◌, Bool, true, false, not, List, [], ◌∷◌, ◌++◌, codes, map, drop, All, refl, sym, ap, subst, ◌∙◌}
use Rattle.script_reader.proofs.Common.{append_assoc, flat_map, true≢false, arith, AllByRecursion, nat_cmp_total, nat_cmp, append-nil, recursion_from_All}
use Rattle.script_reader.proofs.Common.{ClearingBooks, AreInRange, Op, Part, operations_in, operations_of, All-front, All-back, number, header_words}
use Rattle.script_reader.proofs.Common.{account_words, price_words, position_words, call_words, books_operation_words, part_words, books_words}
use Rattle.script_reader.proofs.Common.{books_submission_words, lines_so_far, ClearingInput, Submission, callers_of, Spells, IsValidInput, word_at, Words}
use Rattle.script_reader.proofs.Common.{begins, is_only, value_of, fault_of, is_turning, IsScriptOf, IsOperationOf, AreCallersOf, Version}
use Rattle.std.specs.FinMap.{same_entries_map}
use Rattle.script_reader.proofs.Joined.{joined}
use Rattle.script_reader.proofs.text.Tokens.Numerals.{value_of_number}
use Rattle.script_reader.proofs.books.Printing.Scripted.{ended}
use Rattle.script_reader.proofs.books.OperationRows.{no_end, no_turning, no_try, operation_once}
use Rattle.script_reader.proofs.books.Printing.Sections.{all_follow, each_entry}
use Rattle.script_reader.proofs.books.WithoutFault.Faultless.{IsPrice, IsPosition, IsMarginCall}
use Rattle.script_reader.proofs.books.WithoutFault.BooksFaultless.{blocks_fit, instruments_fit, ring_fits, prices_are, positions_are, calls_are}
use Rattle.script_reader.proofs.language.Grouped.Submitting.{IsGoodScript, scripts_are_good}
use Rattle.script_reader.proofs.books.Texts.Deciding.{callers_spelled, whole}
use Rattle.script_reader.proofs.books.Versions.{one_version}
use Rattle.script_reader.proofs.Judged.{same_lines}
use Rattle.std.specs.FinMap as finmap
use Rattle.books_model.specs.declared.script.Part.TheVariants as part

-- numbers with the same text are the same
number_once : {n m : ℕ} → n < 2 ^ 64 → m < 2 ^ 64 → number n ≡ number m → n ≡ m
number_once fits also e = sym (value_of_number fits) ∙ ap value_of e ∙ value_of_number also

-- the first line fails a test, or there is none
abbrev pub StopsAt : (Words → Bool) → List Words → Type 0
StopsAt t [] = Unit {0}
StopsAt t (w ∷ ws) = t w ≡ false

-- so it is behind lines that fail
stops_behind : {A : Type 0} (t : Words → Bool) (f : A → Words) (xs : List A) (ys : List Words)
    → ((x : A) → t (f x) ≡ false) → StopsAt t ys → StopsAt t (map f xs ++ ys)
stops_behind t f [] ys fails stops = stops
stops_behind t f (x ∷ xs) ys fails stops = fails x

module _ {A : Type 0} (t : Words → Bool) (f : A → Words) (P : A → Type 0) (once : (x y : A) → P x → P y → f x ≡ f y
    → x ≡ y) (passes : (x : A) → t (f x) ≡ true) where
  -- lines that pass, in front of one that does not, are the same
  pub part_once : (xs us : List A) (ys vs : List Words) → AllByRecursion P xs → AllByRecursion P us → StopsAt t ys
      → StopsAt t vs → map f xs ++ ys ≡ map f us ++ vs → (xs ≡ us) × (ys ≡ vs)
  part_once [] [] ys vs p q s r e = (refl, e)
  part_once [] (u ∷ us) ys vs p q s r e = absurd (true≢false (sym (passes u) ∙ subst (λ l. StopsAt t l) e s))
  part_once (x ∷ xs) [] ys vs p q s r e = absurd (true≢false (sym (passes x) ∙ subst (λ l. StopsAt t l) (sym e) r))
  part_once (x ∷ xs) (u ∷ us) ys vs p q s r e =
      let heads : f x ≡ f u = cc in
      let rest = part_once xs us ys vs p.1 q.1 s r cc in
      ((λ i. once x u p.0 q.0 heads i ∷ rest.0 i), rest.1)

-- two numbers that have texts, and three
abbrev AreSmall : ℕ × ℕ → Type 0
AreSmall e = (e.0 < 2 ^ 64) × (e.1 < 2 ^ 64)

abbrev AllSmall : (ℕ × ℕ) × ℕ → Type 0
AllSmall e = AreSmall e.0 × (e.1 < 2 ^ 64)

pair_once : (keyword : List ℕ) (e f : ℕ × ℕ) → AreSmall e → AreSmall f → keyword ∷ number e.0 ∷ number e.1 ∷ [] ≡ keyword ∷ number f.0 ∷ number f.1 ∷ [] → e ≡ f
pair_once keyword e f h k same i = (number_once h.0 k.0 (ap (λ w. word_at w 1) same) i, number_once h.1 k.1 (ap (λ w. word_at w 2) same) i)

position_once : (e f : (ℕ × ℕ) × ℕ) → AllSmall e → AllSmall f → position_words e ≡ position_words f → e ≡ f
position_once e f h k same i = (
  (number_once h.0.0 k.0.0 (ap (λ w. word_at w 1) same) i, number_once h.0.1 k.0.1 (ap (λ w. word_at w 2) same) i),
  number_once h.1 k.1 (ap (λ w. word_at w 3) same) i,
)

module _ {b : ClearingBooks} (r : AreInRange b) where
  small_accounts : AllByRecursion AreSmall (finmap.entries b.accounts)
  small_accounts = each_entry nat_cmp nat_cmp_total AreSmall b.accounts (λ e found. let h =
      r.accounts e.0 e.1 found in (omega (arith, h.0.1), omega (arith, h.1)))

  small_prices : AllByRecursion AreSmall (finmap.entries b.prices)
  small_prices = all_follow (IsPrice b.instruments) AreSmall (finmap.entries b.prices)
      (λ e h. (h.2, h.3.2)) (prices_are r)

  small_positions : AllByRecursion AllSmall (finmap.entries b.positions)
  small_positions = all_follow (IsPosition b.instruments) AllSmall (finmap.entries b.positions)
      (λ e h. ((h.2, h.3.2), h.3.3.2)) (positions_are r)

  small_calls : AllByRecursion AreSmall b.calls
  small_calls = all_follow IsMarginCall AreSmall b.calls (λ e h. (h.2, h.3.2)) (calls_are r)

module _ (version : Version) (b : ClearingBooks) (fits : b.instruments < 2 ^ 64) where
  -- operations in front of a line that is none are the same
  branch_once : (word : List ℕ) → is_turning (word ∷ []) ≡ true → (ops others : List Op) (rest more : List Words)
      → All (IsOperationOf version b) ops → All (IsOperationOf version b) others
      → map books_operation_words ops ++ ((word ∷ []) ∷ rest) ≡ map books_operation_words others ++ ((word ∷ []) ∷ more) → (ops ≡ others) × (rest ≡ more)
  branch_once word turns ops others rest more p q e =
      let parts = part_once (λ w. not (is_turning w)) books_operation_words (IsOperationOf version b)
      (operation_once version b fits) (λ o. ap not (no_turning o)) ops others
      ((word ∷ []) ∷ rest) ((word ∷ []) ∷ more) (recursion_from_All _ _ p) (recursion_from_All _ _ q) (ap not turns) (ap not turns) e in
      (parts.0, ap (drop 1) parts.1)

  -- a line begins a part: it is not the line that ends a script
  goes_on_part : (p : Part) (rest : List Words)
      → (words : Words) × (more : List Words) × (part_words p ++ rest ≡ words ∷ more) × (is_only (codes "end") words ≡ false)
  goes_on_part (part.One o) rest = (books_operation_words o, rest, refl, no_end o)
  goes_on_part (part.Either first second) rest = (codes "try" ∷ [], _, refl, refl)

  -- the first part of lines is the same
  one_part : (p q : Part) (rest more : List Words) → All (IsOperationOf version b) (operations_in p) → All (IsOperationOf version b) (operations_in q)
      → part_words p ++ rest ≡ part_words q ++ more → (p ≡ q) × (rest ≡ more)
  one_part (part.One o) (part.One w) rest more h k e =
      let heads : books_operation_words o ≡ books_operation_words w = cc in
      let tails : rest ≡ more = cc in (
        ap part.One (operation_once version b fits o w (recursion_from_All (IsOperationOf version b) (o ∷ []) h).0
            (recursion_from_All (IsOperationOf version b) (w ∷ []) k).0
            heads),
        tails,
      )
  one_part (part.One o) (part.Either first second) rest more h k e =
      let heads : books_operation_words o ≡ codes "try" ∷ [] = cc in
      absurd (true≢false (sym (ap (is_only (codes "try")) heads) ∙ no_try o))
  one_part (part.Either first second) (part.One o) rest more h k e =
      let heads : codes "try" ∷ [] ≡ books_operation_words o = cc in
      absurd (true≢false (ap (is_only (codes "try")) heads ∙ no_try o))
  one_part (part.Either first second) (part.Either others last) rest more h k e =
      let tails : (map books_operation_words first ++ ((codes "else" ∷ []) ∷ (map books_operation_words second ++ (codes "done" ∷ []) ∷ []))) ++ rest
      ≡ (map books_operation_words others ++ ((codes "else" ∷ []) ∷ (map books_operation_words last ++ (codes "done" ∷ []) ∷ []))) ++ more = cc in
      let one = branch_once (codes "else") refl first others _ _ (All-front (IsOperationOf version b) first second h)
      (All-front (IsOperationOf version b) others last k)
      (simp append_assoc at tails) in
      let two = branch_once (codes "done") refl second last rest more (All-back (IsOperationOf version b) first second h)
      (All-back (IsOperationOf version b) others last k) one.1 in
      ((λ i. part.Either (one.0 i) (two.0 i)), two.1)

  -- parts in front of the line that ends their script are the same
  script_once : (parts others : List Part) (rest more : List Words)
      → All (IsOperationOf version b) (operations_of parts) → All (IsOperationOf version b) (operations_of others)
      → flat_map part_words parts ++ ((codes "end" ∷ []) ∷ rest) ≡ flat_map part_words others ++ ((codes "end" ∷ []) ∷ more) → (parts ≡ others) × (rest ≡ more)
  script_once [] [] rest more h k e = (refl, ap (drop 1) e)
  script_once [] (q ∷ others) rest more h k e =
      let begins = goes_on_part q (flat_map part_words others ++ ((codes "end" ∷ []) ∷ more)) in
      let is : (codes "end" ∷ []) ∷ rest ≡ begins.0 ∷ begins.1 = e ∙ append_assoc (part_words q) (flat_map part_words others) _ ∙ begins.2 in
      let heads : codes "end" ∷ [] ≡ begins.0 = cc in
      absurd (true≢false (ap (is_only (codes "end")) heads ∙ begins.3))
  script_once (p ∷ parts) [] rest more h k e =
      let begins = goes_on_part p (flat_map part_words parts ++ ((codes "end" ∷ []) ∷ rest)) in
      let is : (codes "end" ∷ []) ∷ more ≡ begins.0 ∷ begins.1 = sym e ∙ append_assoc (part_words p) (flat_map part_words parts) _ ∙ begins.2 in
      let heads : codes "end" ∷ [] ≡ begins.0 = cc in
      absurd (true≢false (ap (is_only (codes "end")) heads ∙ begins.3))
  script_once (p ∷ parts) (q ∷ others) rest more h k e =
      let one = one_part p q _ _ (All-front (IsOperationOf version b) (operations_in p) (operations_of parts) h)
      (All-front (IsOperationOf version b) (operations_in q) (operations_of others) k)
      (simp append_assoc at e) in
      let behind = script_once parts others rest more (All-back (IsOperationOf version b) (operations_in p) (operations_of parts) h)
      (All-back (IsOperationOf version b) (operations_in q) (operations_of others) k) one.1 in
      ((λ i. one.0 i ∷ behind.0 i), behind.1)

  -- scripts with the same lines are the same
  scripts_once : (subs vs : List Submission) → AllByRecursion (IsGoodScript (IsScriptOf version b)) subs
      → AllByRecursion (IsGoodScript (IsScriptOf version b)) vs
      → flat_map books_submission_words subs ≡ flat_map books_submission_words vs → subs ≡ vs
  scripts_once [] [] p q e = refl
  scripts_once [] (v ∷ vs) p q e = cc
  scripts_once (s ∷ subs) [] p q e = cc
  scripts_once (s ∷ subs) (v ∷ vs) p q e =
      let end : Words = codes "end" ∷ [] in
      let heads : codes "script" ∷ s.caller ∷ [] ≡ codes "script" ∷ v.caller ∷ [] = cc in
      let tails : (flat_map part_words s.script ++ end ∷ []) ++ flat_map books_submission_words subs
      ≡ (flat_map part_words v.script ++ end ∷ []) ++ flat_map books_submission_words vs = cc in
      let parts = script_once s.script v.script (flat_map books_submission_words subs) (flat_map books_submission_words vs) p.0.script.each q.0.script.each
      (simp append_assoc at tails) in
      let rest = scripts_once subs vs p.1 q.1 parts.1 in
      let names : s.caller ≡ v.caller = ap (λ w. word_at w 1) heads in
      (λ i. record { caller = names i; script = parts.0 i } ∷ rest i)

-- the lines of books in front of others
tail_form : (version : Version) (b : ClearingBooks) (rest : List Words) → books_words version b ++ rest
    ≡ header_words version b ∷ (map account_words (finmap.entries b.accounts)
    ++ (map price_words (finmap.entries b.prices) ++ (map position_words (finmap.entries b.positions) ++ (map call_words b.calls ++ rest))))
tail_form version b rest = simp joined

-- books and scripts with the same lines are the same
lines_once : {version other : Version} {b c : ClearingBooks} (subs vs : List Submission) → AreInRange b → AreInRange c
    → AreCallersOf version b (callers_of subs) → AreCallersOf other c (callers_of vs) → lines_so_far version b subs ≡ lines_so_far other c vs
    → (b ≡ c) × (subs ≡ vs)
lines_once {version} {other} {b} {c} subs vs r s valid also e =
    let S : List Words = ended subs in
    let V : List Words = ended vs in
    let same = sym (tail_form version b S) ∙ e ∙ tail_form other c V in
    let heads : header_words version b ≡ header_words other c = cc in
    let versions = one_version version other (ap (λ w. word_at w 1) heads) in
    let blocks = number_once (blocks_fit r) (blocks_fit s) (ap (λ w. word_at w 3) heads) in
    let instruments = number_once (instruments_fit r) (instruments_fit s) (ap (λ w. word_at w 5) heads) in
    let ring = number_once (ring_fits r) (ring_fits s) (ap (λ w. word_at w 7) heads) in
    let accounts = part_once (begins (codes "account")) account_words AreSmall (pair_once (codes "account")) (λ x. refl)
    (finmap.entries b.accounts) (finmap.entries c.accounts) _ _ (small_accounts r) (small_accounts s)
    (stops_behind (begins (codes "account")) price_words (finmap.entries b.prices) _ (λ x. refl)
    (stops_behind (begins (codes "account")) position_words (finmap.entries b.positions) _ (λ x. refl)
    (stops_behind (begins (codes "account")) call_words b.calls S (λ x. refl) refl)))
    (stops_behind (begins (codes "account")) price_words (finmap.entries c.prices) _ (λ x. refl)
    (stops_behind (begins (codes "account")) position_words (finmap.entries c.positions) _ (λ x. refl)
    (stops_behind (begins (codes "account")) call_words c.calls V (λ x. refl) refl)))
    cc in
    let prices = part_once (begins (codes "price")) price_words AreSmall (pair_once (codes "price")) (λ x. refl)
    (finmap.entries b.prices) (finmap.entries c.prices) _ _ (small_prices r) (small_prices s)
    (stops_behind (begins (codes "price")) position_words (finmap.entries b.positions) _ (λ x. refl)
    (stops_behind (begins (codes "price")) call_words b.calls S (λ x. refl) refl))
    (stops_behind (begins (codes "price")) position_words (finmap.entries c.positions) _ (λ x. refl)
    (stops_behind (begins (codes "price")) call_words c.calls V (λ x. refl) refl))
    accounts.1 in
    let positions = part_once (begins (codes "position")) position_words AllSmall position_once (λ x. refl)
    (finmap.entries b.positions) (finmap.entries c.positions) _ _ (small_positions r) (small_positions s)
    (stops_behind (begins (codes "position")) call_words b.calls S (λ x. refl) refl)
    (stops_behind (begins (codes "position")) call_words c.calls V (λ x. refl) refl)
    prices.1 in
    let calls = part_once (begins (codes "call")) call_words AreSmall (pair_once (codes "call")) (λ x. refl) b.calls
    c.calls S V (small_calls r) (small_calls s) refl refl positions.1 in
    let books : b ≡ c = λ t. record {
      blocks = blocks t;
      instruments = instruments t;
      ring = ring t;
      accounts = same_entries_map b.accounts c.accounts accounts.0 t;
      positions = same_entries_map b.positions c.positions positions.0 t;
      prices = same_entries_map b.prices c.prices prices.0 t;
      calls = calls.0 t;
    } in
    let scripts : flat_map books_submission_words subs ≡ flat_map books_submission_words vs = let rest : S ≡ V = calls.1 in cc in (
      books,
      scripts_once version b (instruments_fit r) subs vs (scripts_are_good (IsScriptOf version b) subs valid)
          (subst (λ d. AllByRecursion (IsGoodScript (IsScriptOf version d)) vs) (sym books)
          (subst (λ w. AllByRecursion (IsGoodScript (IsScriptOf w c)) vs) (sym versions) (scripts_are_good (IsScriptOf other c) vs also))) scripts,
    )

pub one_input : (text : List ℕ) (input other : ClearingInput) → Spells text input → Spells text other → input ≡ other
one_input text input other h k =
    let lines = same_lines fault_of IsValidInput whole text [] text [] (sym (append-nil text)) (sym (append-nil text)) (input, h) (other, k) in
    let same = lines_once h.submissions k.submissions h.valid.books k.valid.books
    (callers_spelled h) (callers_spelled k) lines.0 in
    (λ t. record { books = same.0 t; callers = (h.callers ∙ ap callers_of same.1 ∙ sym k.callers) t })
