-- The text of replies and of journal lines, one piece after another.
use Rattle.books_report.proofs.Common.{◌≡◌, ◌+◌, ◌++◌, [], ◌∷◌, ℕ, List, Some, map, take, codes, sym, ap, ◌∙◌, append_assoc, append-nil, flat_map}
use Rattle.books_report.proofs.Common.{join_with_byte, caller_at, Reply, SPACE, ClearingInput, Line, journal_line, journal_lines, ran_of_line, scripts_of}
use Rattle.books_report.proofs.Common.{reply_words}
use Rattle.std.specs.List.{slice_get}
use Rattle.std.proofs.lemmas.List.{take_more}
use Rattle.std.proofs.lemmas.Option.{get_or_from_slice_get, slice_get_within}

-- one more element, by its place
pub take_next : {A : Type 0} (xs : List A) (i : ℕ) {x : A} → slice_get xs i ≡ Some x → take (i + 1) xs ≡ take i xs ++ x ∷ []
take_next xs i {x} h = take_more xs i x (slice_get_within xs i x h) ∙ ap (λ y. take i xs ++ y ∷ []) (get_or_from_slice_get xs i x x h)

-- one piece behind another, behind what was there
pub two_pieces : (text one other before now : List ℕ) → before ≡ text ++ one → now ≡ before ++ other → now ≡ text ++ (one ++ other)
two_pieces text one other before now h k = simp (k, h, append_assoc)

-- one more piece is written, and the rest is left
pub piece_written : {whole : List ℕ} (before now one rest : List ℕ) → before ++ (one ++ rest) ≡ whole → now ≡ before ++ one → now ++ rest ≡ whole
piece_written before now one rest so_far written = simp (written, append_assoc) so_far

-- the same of pieces of a list
pub piece_next : {A : Type 0} (piece : A → List ℕ) (whole before now : List ℕ) (items left : List A) (x : A)
    → before ++ flat_map piece items ≡ whole → items ≡ x ∷ left → now ≡ before ++ piece x → now ++ flat_map piece left ≡ whole
piece_next piece whole before now items left x so_far next =
    piece_written before now (piece x) (flat_map piece left) (sym (ap (λ xs. before ++ flat_map piece xs) next) ∙ so_far)

-- words joined to a first one, each with a space in front
pub join-map : {A : Type 0} (c : ℕ) (f : A → List ℕ) (x : List ℕ) (xs : List A) → join_with_byte c (x ∷ map f xs) ≡ x ++ flat_map (λ y. c ∷ f y) xs
join-map c f x [] = sym (append-nil x)
join-map c f x (y ∷ ys) = ap (λ zs. x ++ (c ∷ zs)) (join-map c f (f y) ys)

module _ {V : Type 0} (word : V → List ℕ) where
  -- a space and the word of a value
  abbrev pub spaced : V → List ℕ
  spaced v = SPACE ∷ word v

  -- `done` and then the values are the words of a reply
  pub done_values : (text : List ℕ) {before now : List ℕ} (values : List V) → before ≡ text ++ codes "done" → now ≡ before ++ flat_map spaced values
      → now ≡ text ++ join_with_byte SPACE (codes "done" ∷ map word values)
  done_values text {before} {now} values first rest =
      two_pieces text (codes "done") (flat_map spaced values) before now first rest
      ∙ ap (λ xs. text ++ xs) (sym (join-map SPACE word (codes "done") values))

-- one more line is written, and the others are left
pub line_next : (input : ClearingInput) {whole : List ℕ} (before : List ℕ) {now name : List ℕ} (serial : ℕ) {lines left : List Line}
    {replies others : List Reply} {l : Line} {answer : Reply}
    → before ++ journal_lines reply_words input.callers serial (scripts_of lines replies) ≡ whole → lines ≡ l ∷ left → replies ≡ answer ∷ others
    → name ≡ (caller_at input.callers l.caller).name → now ≡ before ++ journal_line reply_words serial name (ran_of_line l answer)
    → now ++ journal_lines reply_words input.callers (serial + 1) (scripts_of left others) ≡ whole
line_next input before {now} serial {l} {answer} so_far next answered named written =
    piece_written before now (journal_line reply_words serial (caller_at input.callers l.caller).name (ran_of_line l answer)) _
    (sym (λ i. before ++ journal_lines reply_words input.callers serial (scripts_of (next i) (answered i))) ∙ so_far)
    (written ∙ ap (λ n. before ++ journal_line reply_words serial n (ran_of_line l answer)) named)
