-- The lines of scripts have no fault.
use Rattle.script_reader.proofs.Common.{◌≡◌, ℕ, ◌+◌, ◌≤◌, false, List, [], ◌∷◌, ◌++◌, codes, map, All, sum_by, None, fold, length, refl, sym, ap, subst, ◌∙◌}
use Rattle.script_reader.proofs.Common.{length-append, arith, flat_map, AllByRecursion, lt-leb, append-nil, recursion_from_All, sum_by-append, sum_by-cons}
use Rattle.script_reader.proofs.Common.{ClearingBooks, AreInRange, MOST_ALTERNATIVES, MOST_OPERATIONS, Op, Part, operations_in, operations_of, alternatives_in}
use Rattle.script_reader.proofs.Common.{All-front, All-back, MOST_CALLERS, MOST_SCRIPTS, IsWord, books_operation_words, part_words, Open, BetweenParts, InFirst}
use Rattle.script_reader.proofs.Common.{InSecond, parts_with, script_words, books_words, books_submission_words, lines_so_far, lines_inside, Submission}
use Rattle.script_reader.proofs.Common.{callers_of, AreBooksWithin, Words, is_only, inside_fault, fault_of, add_submission, is_beyond_in, IsScriptOf}
use Rattle.script_reader.proofs.Common.{IsOperationOf, AreCallersOf, Version}
use Rattle.script_reader.proofs.Joined.{joined}
use Rattle.script_reader.proofs.books.Regions.{region_of}
use Rattle.script_reader.specs.Input.{count_scripts}
use Rattle.script_reader.proofs.books.NoneFaulty.{AreFaultless}
use Rattle.script_reader.proofs.text.Tokens.Cutting.{word_from_test}
use Rattle.script_reader.proofs.books.Printing.Scripted.{ended, outside_fault_is, inside_fault_is}
use Rattle.script_reader.proofs.books.OperationRows.{no_finish, operation-AreWords}
use Rattle.script_reader.proofs.books.Printing.Opened.{parts_more, open_more, words_more, operations_more, words_try, operations_try, words_else, inside_more}
use Rattle.script_reader.proofs.books.Printing.Opened.{rest_of_branch, first_count}
use Rattle.script_reader.proofs.books.WithoutFault.NoFault.{operation_has_none, try_fault, scripts_has_none}
use Rattle.script_reader.proofs.books.WithoutFault.BooksFaultless.{printed, printed_small, instruments_fit, books_faultless}
use Rattle.script_reader.proofs.language.Grouped.Submitting.{IsGoodScript, scripts_are_good, caller-AreWords}
use Rattle.script_reader.proofs.language.Grouped.Grouping.{callers_of-push, callers_of-gathered}
use Rattle.script_reader.proofs.language.Grouped.Outside.{outside_none, room_for}
use Rattle.script_reader.proofs.Judging.{faultless_append}
use Rattle.books_model.specs.declared.script.Part.TheVariants as part

module _ (version : Version) {b : ClearingBooks} (range : AreInRange b) where
  -- lines behind scripts that have ended
  before : List Submission → List Words
  before subs = books_words version b ++ ended subs

  -- operations, behind those of an open script
  pub operations_faultless : (subs : List Submission) (name : List ℕ) (parts : List Part) (stage : Open) (rest : List Op)
      → AllByRecursion (IsOperationOf version b) rest → length (operations_of (parts_with parts stage)) + length rest ≤ MOST_OPERATIONS
      → AreFaultless (lines_inside version b subs name parts stage) (map books_operation_words rest)
  operations_faultless subs name parts stage [] all room = tt
  operations_faultless subs name parts stage (o ∷ rest) all room = (
    operation-AreWords version b (instruments_fit range) o all.0,
    inside_fault_is subs name parts stage (books_operation_words o) (printed_small range version)
        ∙ operation_has_none version b (instruments_fit range) (region_of stage) (length (operations_of (parts_with parts stage))) _
        (omega (arith, room)) o all.0,
    no_finish o,
    subst (λ ls. AreFaultless ls (map books_operation_words rest))
        (inside_more version b subs name parts (parts_more parts stage o) stage (open_more stage o) (books_operation_words o ∷ []) (words_more parts stage o))
        (operations_faultless subs name (parts_more parts stage o) (open_more stage o) rest all.1
        (omega (arith, room, ap length (operations_more parts stage o), length-append (operations_of (parts_with parts stage)) (o ∷ [])))),
  )

  -- a line of one word of a script that turns it
  pub turning_faultless : (subs : List Submission) (name : List ℕ) (parts : List Part) (stage : Open) (word : List ℕ)
      → IsWord word → is_only (codes "finish") (word ∷ []) ≡ false
      → inside_fault version (region_of stage) b.instruments (length (operations_of (parts_with parts stage))) (sum_by alternatives_in (parts_with parts stage))
      (word ∷ []) ≡ None
      → AreFaultless (lines_inside version b subs name parts stage) ((word ∷ []) ∷ [])
  turning_faultless subs name parts stage word is more none = (
    record { some = omega arith; each = (is, tt) },
    inside_fault_is subs name parts stage (word ∷ []) (printed_small range version) ∙ none,
    more,
    tt,
  )

  -- a part behind others
  part_faultless : (subs : List Submission) (name : List ℕ) (parts : List Part) (p : Part)
      → All (IsOperationOf version b) (operations_in p) → length (operations_of parts) + length (operations_in p) ≤ MOST_OPERATIONS
      → sum_by alternatives_in parts + alternatives_in p ≤ MOST_ALTERNATIVES
      → AreFaultless (lines_inside version b subs name parts BetweenParts) (part_words p)
  part_faultless subs name parts (part.One o) all room few =
      operations_faultless subs name parts BetweenParts (o ∷ []) (recursion_from_All (IsOperationOf version b) (o ∷ []) all) (omega (arith, room))
  part_faultless subs name parts (part.Either first second) all room few =
      let start = lines_inside version b subs name parts BetweenParts in
      let long = length-append first second in
      let begun = inside_more version b subs name parts parts BetweenParts (InFirst []) ((codes "try" ∷ []) ∷ []) (words_try parts) in
      let branch = inside_more version b subs name parts parts (InFirst []) (InFirst first) (map books_operation_words first)
      (rest_of_branch parts first second).0 in
      let turned = inside_more version b subs name parts parts (InFirst first) (InSecond first []) ((codes "else" ∷ []) ∷ []) (words_else parts first) in
      let other = inside_more version b subs name parts parts (InSecond first []) (InSecond first second) (map books_operation_words second)
      (rest_of_branch parts first second).1 in
      let count = first_count parts first in
      faultless_append fault_of start ((codes "try" ∷ []) ∷ [])
      (map books_operation_words first ++ ((codes "else" ∷ []) ∷ (map books_operation_words second ++ (codes "done" ∷ []) ∷ [])))
      (turning_faultless subs name parts BetweenParts (codes "try") (word_from_test (codes "try") refl) refl
      (try_fault version b.instruments (length (operations_of parts)) (sum_by alternatives_in parts)
      (lt-leb MOST_ALTERNATIVES (sum_by alternatives_in parts) (omega (arith, few)))))
      (subst (λ ls. AreFaultless ls (map books_operation_words first ++
      ((codes "else" ∷ []) ∷ (map books_operation_words second ++ (codes "done" ∷ []) ∷ [])))) begun
      (faultless_append fault_of (lines_inside version b subs name parts (InFirst [])) (map books_operation_words first)
      ((codes "else" ∷ []) ∷ (map books_operation_words second ++ (codes "done" ∷ []) ∷ []))
      (operations_faultless subs name parts (InFirst []) first
      (recursion_from_All (IsOperationOf version b) first (All-front (IsOperationOf version b) first second all))
      (omega (arith, room, ap length (operations_try parts), long)))
      (subst (λ ls. AreFaultless ls ((codes "else" ∷ []) ∷ (map books_operation_words second ++ (codes "done" ∷ []) ∷ []))) branch
      (faultless_append fault_of (lines_inside version b subs name parts (InFirst first)) ((codes "else" ∷ []) ∷ [])
      (map books_operation_words second ++ (codes "done" ∷ []) ∷ [])
      (turning_faultless subs name parts (InFirst first) (codes "else") (word_from_test (codes "else") refl) refl refl)
      (subst (λ ls. AreFaultless ls (map books_operation_words second ++ (codes "done" ∷ []) ∷ [])) turned
      (faultless_append fault_of (lines_inside version b subs name parts (InSecond first [])) (map books_operation_words second) ((codes "done" ∷ []) ∷ [])
      (operations_faultless subs name parts (InSecond first []) second
      (recursion_from_All (IsOperationOf version b) second (All-back (IsOperationOf version b) first second all)) (omega (arith, room, count, long)))
      (subst (λ ls. AreFaultless ls ((codes "done" ∷ []) ∷ [])) other
      (turning_faultless subs name parts (InSecond first second) (codes "done") (word_from_test (codes "done") refl) refl refl))))))))

  -- parts behind others
  pub parts_faultless : (subs : List Submission) (name : List ℕ) (done rest : List Part)
      → All (IsOperationOf version b) (operations_of rest) → length (operations_of done) + length (operations_of rest) ≤ MOST_OPERATIONS
      → sum_by alternatives_in done + sum_by alternatives_in rest ≤ MOST_ALTERNATIVES
      → AreFaultless (lines_inside version b subs name done BetweenParts) (flat_map part_words rest)
  parts_faultless subs name done [] all room few = tt
  parts_faultless subs name done (p ∷ rest) all room few =
      let more : script_words (done ++ p ∷ []) BetweenParts ≡ script_words done BetweenParts ++ part_words p = simp joined in
      let long = length-append (operations_in p) (operations_of rest) in
      let counted = sum_by-cons alternatives_in p rest in
      faultless_append fault_of (lines_inside version b subs name done BetweenParts) (part_words p) (flat_map part_words rest)
      (part_faultless subs name done p (All-front (IsOperationOf version b) (operations_in p) (operations_of rest) all) (omega (arith, room, long))
      (omega (arith, few, counted)))
      (subst (λ ls. AreFaultless ls (flat_map part_words rest))
      (inside_more version b subs name done (done ++ p ∷ []) BetweenParts BetweenParts (part_words p) more)
      (parts_faultless subs name (done ++ p ∷ []) rest (All-back (IsOperationOf version b) (operations_in p) (operations_of rest) all)
      (simp (length-append, joined) (omega (arith, room, long)))
      (omega (arith, few, counted, sum_by-append alternatives_in done (p ∷ [])))))

  -- a script behind others
  submission_faultless : (done : List Submission) {s : Submission} → IsGoodScript (IsScriptOf version b) s
      → is_beyond_in (callers_of done) s.caller ≡ false → AreFaultless (lines_so_far version b done) (books_submission_words s)
  submission_faultless done {s} good room = (
    caller-AreWords s.caller good.name,
    outside_fault_is (printed version b) done (codes "script" ∷ s.caller ∷ []) ∙ outside_none (callers_of done) s.caller good.name room,
    refl,
    faultless_append fault_of (lines_inside version b done s.caller [] BetweenParts) (flat_map part_words s.script) ((codes "end" ∷ []) ∷ [])
        (parts_faultless done s.caller [] s.script good.script.each (omega (arith, good.script.few)) (omega (arith, good.script.few_alternatives)))
        (subst (λ ls. AreFaultless ls ((codes "end" ∷ []) ∷ []))
        (inside_more version b done s.caller [] s.script BetweenParts BetweenParts (flat_map part_words s.script) (append-nil (flat_map part_words s.script)))
        (turning_faultless done s.caller s.script BetweenParts (codes "end") (word_from_test (codes "end") refl) refl refl)),
  )

  pub submissions_faultless : (done rest : List Submission) → AllByRecursion (IsGoodScript (IsScriptOf version b)) rest
      → count_scripts (fold add_submission (callers_of done) rest) ≤ MOST_SCRIPTS → length (fold add_submission (callers_of done) rest) ≤ MOST_CALLERS
      → AreFaultless (lines_so_far version b done) (flat_map books_submission_words rest)
  submissions_faultless done [] all few space = tt
  submissions_faultless done (s ∷ rest) all few space =
      let push = callers_of-push done s in
      let more : lines_so_far version b done ++ books_submission_words s ≡ lines_so_far version b (done ++ s ∷ []) = simp joined in
      faultless_append fault_of (lines_so_far version b done) (books_submission_words s) (flat_map books_submission_words rest)
      (submission_faultless done all.0 (room_for (callers_of done) s rest few space))
      (subst (λ ls. AreFaultless ls (flat_map books_submission_words rest)) (sym more)
      (submissions_faultless (done ++ s ∷ []) rest all.1
      (subst (λ c. count_scripts (fold add_submission c rest) ≤ MOST_SCRIPTS) (sym push) few)
      (subst (λ c. length (fold add_submission c rest) ≤ MOST_CALLERS) (sym push) space)))

  -- the lines of scripts of callers
  pub scripts_faultless : (subs : List Submission) → AreCallersOf version b (callers_of subs)
      → AreFaultless (lines_so_far version b []) (flat_map books_submission_words subs)
  scripts_faultless subs valid =
      submissions_faultless [] subs (scripts_are_good (IsScriptOf version b) subs valid)
      (subst (λ c. count_scripts c ≤ MOST_SCRIPTS) (callers_of-gathered subs) valid.few_scripts)
      (subst (λ c. length c ≤ MOST_CALLERS) (callers_of-gathered subs) valid.few)

  -- all lines of an input before its last
  pub input_faultless : AreBooksWithin version b → (subs : List Submission) → AreCallersOf version b (callers_of subs)
      → AreFaultless [] (lines_so_far version b subs)
  input_faultless within subs valid = faultless_append fault_of [] (books_words version b) (ended subs) (books_faultless range within) (
    record { some = omega arith; each = (word_from_test (codes "scripts") refl, tt) },
    scripts_has_none (printed_small range version),
    refl,
    scripts_faultless subs valid,
  )
