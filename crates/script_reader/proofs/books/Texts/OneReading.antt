-- A text is cut into lines in one way, so it has an input or a first fault, not both, and one at most.
use Rattle.script_reader.proofs.Common.{◌≡◌, ℕ, List, [], ◌∷◌, ◌++◌, codes, map, refl, sym, ap, ◌∙◌, append_assoc, flat_map, flat_map-append, ClearingBooks}
use Rattle.script_reader.proofs.Common.{line, account_words, price_words, position_words, call_words, books_lines, scripts_line, finish_line, books_words}
use Rattle.script_reader.proofs.Common.{books_submission_words, lines_so_far, Submission, submission_lines, input_text, Version}
use Rattle.script_reader.specs.Text.{header_line, account_line, price_line, position_line, call_line}
use Rattle.script_reader.proofs.Joined.{joined}
use Rattle.std.specs.FinMap as finmap

-- pieces of pieces
pub flat_of_map : {A B C : Type 0} (g : B → List C) (f : A → B) (xs : List A) → flat_map g (map f xs) ≡ flat_map (λ x. g (f x)) xs
flat_of_map g f [] = refl
flat_of_map g f (x ∷ xs) = ap (λ l. g (f x) ++ l) (flat_of_map g f xs)

pub flat_of_flat : {A B C : Type 0} (g : B → List C) (f : A → List B) (xs : List A) → flat_map g (flat_map f xs) ≡ flat_map (λ x. flat_map g (f x)) xs
flat_of_flat g f [] = refl
flat_of_flat g f (x ∷ xs) = simp (flat_of_flat g f xs, joined)

-- the text of books is that of their lines
pub text_of_books : (version : Version) (b : ClearingBooks) → flat_map line (books_words version b) ≡ books_lines version b
text_of_books version b =
    let A : List ℕ = flat_map account_line (finmap.entries b.accounts) in
    let P : List ℕ = flat_map price_line (finmap.entries b.prices) in
    let Q : List ℕ = flat_map position_line (finmap.entries b.positions) in
    let C : List ℕ = flat_map call_line b.calls in
    ap (λ l. header_line version b ++ l) (
    flat_map-append line (map account_words (finmap.entries b.accounts)) _
    ∙ (λ i. flat_of_map line account_words (finmap.entries b.accounts) i ++ flat_map-append line
    (map price_words (finmap.entries b.prices)) (map position_words (finmap.entries b.positions) ++ map call_words b.calls) i)
    ∙ (λ i. A ++ (flat_of_map line price_words (finmap.entries b.prices) i ++ flat_map-append line
    (map position_words (finmap.entries b.positions)) (map call_words b.calls) i))
    ∙ (λ i. A ++ (P ++ (flat_of_map line position_words (finmap.entries b.positions) i ++ flat_of_map line call_words b.calls i)))
    )
    ∙ sym (append_assoc (header_line version b) A (P ++ (Q ++ C)))
    ∙ sym (append_assoc (header_line version b ++ A) P (Q ++ C))
    ∙ sym (append_assoc (header_line version b ++ A ++ P) Q C)

-- and the text of a script
pub text_of_submission : (s : Submission) → flat_map line (books_submission_words s) ≡ submission_lines s
text_of_submission s = simp joined

-- and the text of an input
pub text_of_input : (version : Version) (b : ClearingBooks) (subs : List Submission)
    → input_text version b subs ≡ flat_map line (lines_so_far version b subs) ++ finish_line
text_of_input version b subs =
    let S : List ℕ = flat_map submission_lines subs in
    let scripts : flat_map line (flat_map books_submission_words subs) ≡ S = flat_of_flat line books_submission_words subs ∙ each subs in
    let lines : flat_map line (lines_so_far version b subs) ≡ books_lines version b ++ (scripts_line ++ S) =
    flat_map-append line (books_words version b) ((codes "scripts" ∷ []) ∷ flat_map books_submission_words subs)
    ∙ (λ i. text_of_books version b i ++ (scripts_line ++ scripts i)) in
    ap (λ l. l ++ finish_line) (append_assoc (books_lines version b) scripts_line S ∙ sym lines)
  where
    each : (subs : List Submission) → flat_map (λ s. flat_map line (books_submission_words s)) subs ≡ flat_map submission_lines subs
    each [] = refl
    each (s ∷ subs) = λ i. text_of_submission s i ++ each subs i
