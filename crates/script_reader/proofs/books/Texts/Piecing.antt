-- Texts that are read in pieces.
use Rattle.script_reader.proofs.Common.{◌≡◌, inr, ℕ, ◌+◌, ◌-◌, ◌<◌, List, [], ◌∷◌, ◌++◌, codes, take, drop, length, get_or, refl, sym, ap, ◌∙◌, append_assoc}
use Rattle.script_reader.proofs.Common.{length-append, arith, flat_map, append-nil, take_more, take_rest, flat_map-append, All-append, ClearingBooks}
use Rattle.script_reader.proofs.Common.{AreInRange, Version, LINE_FEED, line, books_lines, scripts_line, script_lines, end_line, finish_line, Submission}
use Rattle.script_reader.proofs.Common.{callers_of, Spells, submission_lines, CanStand, books_words, AreCallersOf}
use Rattle.std.proofs.lemmas.List.{take-append-drop}
use Rattle.script_reader.specs.Pieces.{AreScripts, IsBetweenScripts, Opens}
use Rattle.script_reader.proofs.books.Versions.{callers_for, callers_within}
use Rattle.script_reader.proofs.books.Texts.OneReading.{text_of_books}

-- a text whose books were read, and whose rest ends with the line `finish`
pub opened_text : (v : Version) (b : ClearingBooks) {bytes rest : List ℕ} (scripts : List ℕ) → bytes ≡ flat_map line (books_words v b) ++ (scripts_line ++ rest)
    → rest ≡ scripts ++ finish_line → bytes ≡ books_lines v b ++ scripts_line ++ scripts ++ finish_line
opened_text v b scripts text ends =
    text ∙ (λ i. text_of_books v b i ++ (scripts_line ++ ends i))
    ∙ sym (append_assoc (books_lines v b) scripts_line (scripts ++ finish_line)) ∙ sym (append_assoc (books_lines v b ++ scripts_line) scripts finish_line)

-- bytes of which the first are scripts, with one script more
pub one_more_submission : {piece before : List ℕ} (after : List ℕ) (subs : List Submission) (s : Submission) → piece ≡ flat_map submission_lines subs ++ before
    → before ≡ submission_lines s ++ after → piece ≡ flat_map submission_lines (subs ++ s ∷ []) ++ after
one_more_submission after subs s text first =
    let all = flat_map submission_lines subs in
    text ∙ ap (λ l. all ++ l) first ∙ sym (append_assoc all (submission_lines s) after)
    ∙ ap (λ l. l ++ after) (ap (λ l. all ++ l) (sym (append-nil (submission_lines s))) ∙ sym (flat_map-append submission_lines subs (s ∷ [])))

-- a script takes some bytes
pub submission_shorter : {before : List ℕ} (after : List ℕ) (s : Submission) → before ≡ submission_lines s ++ after → length after < length before
submission_shorter after s first =
    let begun = line (codes "script" ∷ s.caller ∷ []) ++ script_lines s.script in
    omega (arith, ap length first, length-append (begun ++ end_line) after, length-append begun end_line)

-- behind a line feed with the word of a script behind it, a script begins
pub begins_behind : (bytes : List ℕ) {place : ℕ} → place < length bytes → get_or bytes place 0 ≡ LINE_FEED
    → codes "script " ≡ take 7 (take (length bytes - (place + 1)) (drop (place + 1) bytes))
    → IsBetweenScripts (take (place + 1) bytes) (drop (place + 1) bytes)
begins_behind bytes {place} less feed word =
    let behind = drop (place + 1) bytes in
    let begins : codes "script " ≡ take 7 behind = word ∙ ap (take 7) (take_rest bytes (place + 1)) in
    inr (
      take place bytes,
      drop 7 behind,
      take_more bytes place 0 less ∙ ap (λ b. take place bytes ++ b ∷ []) feed,
      sym (take-append-drop 7 behind) ∙ ap (λ l. l ++ drop 7 behind) (sym begins),
    )

-- the scripts of two pieces, one behind the other, are those of both pieces
pub both_pieces : (v : Version) (b : ClearingBooks) (piece first second : List ℕ) (subs more : List Submission) → AreScripts v b first subs
    → AreScripts v b second more → first ++ second ≡ piece → AreScripts v b piece (subs ++ more)
both_pieces v b piece first second subs more h k whole = record {
  text = sym whole ∙ (λ i. h.text i ++ k.text i) ∙ sym (flat_map-append submission_lines subs more);
  each = All-append (CanStand v b) subs more h.each k.each;
}

-- a text that opens so and has these scripts spells the input of their callers
pub spelled : {v : Version} {b : ClearingBooks} {bytes text : List ℕ} {subs : List Submission} → AreInRange b → AreScripts v b text subs
    → AreCallersOf v b (callers_of subs) → Opens bytes v b text → Spells bytes (record { books = b; callers = callers_of subs })
spelled {v} {b} {text} {subs} range read valid opens = record {
  version = v;
  submissions = subs;
  text = opens.text ∙ ap (λ l. books_lines v b ++ scripts_line ++ l ++ finish_line) read.text;
  callers = refl;
  valid = record { books = range; callers = callers_for v b (callers_of subs) valid };
  within = record { books = opens.within; scripts = callers_within v b (callers_of subs) valid };
}
