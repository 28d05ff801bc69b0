-- Scripts that were read, and the fault behind them.
use Rattle.script_reader.proofs.Common.{◌≡◌, ℕ, true, false, List, [], ◌∷◌, ◌++◌, codes, Some, refl, sym, ap, subst, ◌∙◌, append_assoc, flat_map, ClearingBooks}
use Rattle.script_reader.proofs.Common.{AreInRange, Part, Fault, line, part_words, script_lines, end_line, finish_line, BetweenParts, books_words}
use Rattle.script_reader.proofs.Common.{books_submission_words, lines_so_far, lines_inside, Submission, callers_of, IsName, is_beyond_in, submission_lines}
use Rattle.script_reader.proofs.Common.{Words, is_only, is_script_line, IsFaultyBehind, fault_of, AreCallersOf, Version}
use Rattle.script_reader.proofs.Joined.{joined}
use Rattle.script_reader.proofs.books.Printing.Scripted.{ended, outside_fault_is}
use Rattle.script_reader.proofs.books.WithoutFault.BooksFaultless.{printed}
use Rattle.script_reader.proofs.books.WithoutFault.ScriptsFaultless.{scripts_faultless}
use Rattle.script_reader.proofs.language.Grouped.Submitting.{caller-AreWords}
use Rattle.script_reader.proofs.books.Texts.OneReading.{text_of_submission, flat_of_flat}
use Rattle.script_reader.proofs.language.Grouped.Outside.{outside_other, outside_beyond, outside_none}
use Rattle.script_reader.proofs.Judging.{behind_more}
use Rattle.script_reader.proofs.books.Texts.Following.{more_script}
use Rattle.script_reader.specs.declared.fault.Fault.TheVariants as fault

-- a fault behind scripts that were read
pub behind_scripts : {version : Version} {b : ClearingBooks} (range : AreInRange b) (subs : List Submission) {start left after : List ℕ}
    {why : Fault} → AreCallersOf version b (callers_of subs) → start ≡ flat_map line (flat_map books_submission_words subs) ++ left
    → IsFaultyBehind (lines_so_far version b subs) left after why → IsFaultyBehind (lines_so_far version b []) start after why
behind_scripts {version} {b} range subs {left} {after} {why} valid text h =
    behind_more (flat_map books_submission_words subs)
    (scripts_faultless version range subs valid) text
    (subst (λ l. IsFaultyBehind l left after why) (sym (append_assoc (books_words version b) (ended []) (flat_map books_submission_words subs))) h)

-- a line between scripts that is neither the last one nor begins a script
pub outside_word : (version : Version) (b : ClearingBooks) (subs : List Submission) (words : Words) → is_only (codes "finish") words ≡ false
    → is_script_line words ≡ false → fault_of (lines_so_far version b subs) words ≡ Some fault.Word
outside_word version b subs words more no_script =
    outside_fault_is (printed version b) subs words ∙ outside_other (callers_of subs) words more no_script

-- one script too many, or one caller
pub outside_limit : (version : Version) (b : ClearingBooks) (subs : List Submission) {name : List ℕ} {words : Words}
    → words ≡ codes "script" ∷ name ∷ [] → IsName name → is_beyond_in (callers_of subs) name ≡ true
    → fault_of (lines_so_far version b subs) words ≡ Some fault.Limit
outside_limit version b subs {words} is named beyond =
    outside_fault_is (printed version b) subs words ∙ outside_beyond (callers_of subs) is named beyond

-- a fault inside the script that begins here
pub behind_script : (version : Version) (b : ClearingBooks) (subs : List Submission) {name : List ℕ} {words : Words}
    {left middle after : List ℕ} {why : Fault} → words ≡ codes "script" ∷ name ∷ [] → IsName name → is_beyond_in (callers_of subs) name ≡ false
    → left ≡ line words ++ middle → IsFaultyBehind (lines_inside version b subs name [] BetweenParts) middle after why
    → IsFaultyBehind (lines_so_far version b subs) left after why
behind_script version b subs {name} {middle} is named room text h =
    let first : Words = codes "script" ∷ name ∷ [] in
    behind_more {left = middle} (first ∷ [])
    (caller-AreWords name named, outside_fault_is (printed version b) subs first ∙ outside_none (callers_of subs) name named room, refl, tt)
    (text ∙ simp (is, joined)) h

-- the text of scripts, with one more
pub one_more_script : {start left middle : List ℕ} (after : List ℕ) (subs : List Submission) {name : List ℕ} (script : List Part)
    {words : Words} → start ≡ flat_map line (flat_map books_submission_words subs) ++ left
    → left ≡ line words ++ middle → words ≡ codes "script" ∷ name ∷ [] → middle ≡ script_lines script ++ (end_line ++ after)
    → start ≡ flat_map line (flat_map books_submission_words (subs ++ record { caller = name; script = script } ∷ [])) ++ after
one_more_script after subs {name} script text first is rest =
    more_script after (flat_map books_submission_words subs) (flat_map part_words script) text first is rest ∙ ap (λ l. flat_map line l ++ after) (simp joined)

-- the text of scripts and of the last line
pub last_text : {start left : List ℕ} (after : List ℕ) (subs : List Submission) {words : Words}
    → start ≡ flat_map line (flat_map books_submission_words subs) ++ left → left ≡ line words ++ after → words ≡ codes "finish" ∷ []
    → start ≡ flat_map submission_lines subs ++ (finish_line ++ after)
last_text after subs text last is =
    text ∙ (λ i. (flat_of_flat line books_submission_words subs ∙ each subs) i ++ (last ∙ ap (λ w. line w ++ after) is) i)
  where
    each : (subs : List Submission) → flat_map (λ s. flat_map line (books_submission_words s)) subs ≡ flat_map submission_lines subs
    each [] = refl
    each (s ∷ subs) = λ i. text_of_submission s i ++ each subs i
