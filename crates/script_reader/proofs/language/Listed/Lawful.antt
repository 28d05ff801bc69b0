-- The lines of a text have no fault.
use Rattle.script_reader.proofs.Common.{◌≡◌, ℕ, ◌+◌, ◌≤◌, false, List, [], ◌∷◌, ◌++◌, codes, map, fold, None, length, refl, sym, subst, ◌∙◌, length-append}
use Rattle.script_reader.proofs.Common.{arith, flat_map, AllByRecursion, lt-leb, recursion_from_All, MOST_OPERATIONS, MOST_CALLERS, MOST_SCRIPTS, AreWords}
use Rattle.script_reader.proofs.Common.{IsName, SubmissionOf, AreCallers, count_scripts, HaveNoFault, ListLanguage, AreSizes, IsListLanguage, IsOperationIn}
use Rattle.script_reader.proofs.Common.{IsScriptIn, operation_words, submission_words, lines_of, judge, add_submission, is_beyond_in, lines_within}
use Rattle.script_reader.specs.Gathered.{callers_of}
use Rattle.script_reader.proofs.Joined.{joined}
use Rattle.script_reader.proofs.text.Tokens.Cutting.{word_from_test}
use Rattle.script_reader.proofs.language.Grouped.Submitting.{caller-AreWords, IsGoodScript, scripts_are_good}
use Rattle.script_reader.proofs.language.Listed.Numbers.{texts_are_words, head_fine, head_AreWords, head_goes_on}
use Rattle.script_reader.proofs.language.Grouped.Grouping.{callers_of-push, callers_of-gathered}
use Rattle.script_reader.proofs.language.Grouped.Outside.{room_for, outside_none}
use Rattle.script_reader.proofs.Judging.{faultless_append}
use Rattle.script_reader.proofs.language.Listed.Standing.{operation_goes_on, outside_is, within_is, operation_is, within_more}

module _ {O S : Type 0} {g : ListLanguage O S} (lawful : IsListLanguage g) (ns : List ℕ) (sized : AreSizes g ns) where
  -- the words of an operation are those of a line
  operation-AreWords : {o : O} → IsOperationIn g ns o → AreWords (operation_words g o)
  operation-AreWords {o} h = record {
    some = omega arith;
    each = (
      word_from_test (g.keyword o) (lawful.keywords o),
      texts_are_words h.kind.ranges
          (g.numbers o) h.within,
    );
  }

  -- operations, behind those of a script that has not ended
  pub operations_faultless : (subs : List (SubmissionOf S)) (name : List ℕ) (done rest : List O) → AllByRecursion (IsOperationIn g ns) rest
      → length done + length rest ≤ MOST_OPERATIONS → HaveNoFault (judge g) (lines_within g ns subs name done) (map (operation_words g) rest)
  operations_faultless subs name done [] all room = tt
  operations_faultless subs name done (o ∷ rest) all room = (
    operation-AreWords all.0,
    within_is g lawful ns sized subs name done (operation_words g o)
        ∙ operation_is g lawful (length done) all.0 (lt-leb MOST_OPERATIONS (length done) (omega (arith, room))),
    operation_goes_on g lawful o,
    subst (λ ls. HaveNoFault (judge g) ls (map (operation_words g) rest)) (sym (within_more g lawful ns subs name done (o ∷ [])))
        (operations_faultless subs name (done ++ o ∷ []) rest all.1 (omega (arith, room, length-append done (o ∷ [])))),
  )

  -- the line that begins a script for which there is room
  pub begins_faultless : (subs : List (SubmissionOf S)) (name : List ℕ) → IsName name → is_beyond_in (callers_of subs) name ≡ false
      → judge g (lines_of g ns subs) (codes "script" ∷ name ∷ []) ≡ None
  begins_faultless subs name named room =
      outside_is g lawful ns subs (codes "script" ∷ name ∷ []) ∙ outside_none (callers_of subs) name named room

  -- a script
  submission_faultless : (done : List (SubmissionOf S)) {s : SubmissionOf S} → IsGoodScript (IsScriptIn g ns) s
      → is_beyond_in (callers_of done) s.caller ≡ false → HaveNoFault (judge g) (lines_of g ns done) (submission_words g s)
  submission_faultless done {s} good room = (
    caller-AreWords s.caller good.name,
    begins_faultless done s.caller good.name room,
    refl,
    faultless_append (judge g) (lines_within g ns done s.caller []) (map (operation_words g) (g.operations s.script)) ((codes "end" ∷ []) ∷ [])
        (operations_faultless done s.caller [] (g.operations s.script) (recursion_from_All _ _ good.script.each) (omega (arith, good.script.few)))
        (subst (λ ls. HaveNoFault (judge g) ls ((codes "end" ∷ []) ∷ [])) (sym (within_more g lawful ns done s.caller [] (g.operations s.script))) (
          record { some = omega arith; each = (word_from_test (codes "end") refl, tt) },
          within_is g lawful ns sized done s.caller (g.operations s.script) (codes "end" ∷ []),
          refl,
          tt,
        )),
  )

  -- scripts behind others
  submissions_faultless : (done rest : List (SubmissionOf S)) → AllByRecursion (IsGoodScript (IsScriptIn g ns)) rest
      → count_scripts (fold add_submission (callers_of done) rest) ≤ MOST_SCRIPTS → length (fold add_submission (callers_of done) rest) ≤ MOST_CALLERS
      → HaveNoFault (judge g) (lines_of g ns done) (flat_map (submission_words g) rest)
  submissions_faultless done [] all few space = tt
  submissions_faultless done (s ∷ rest) all few space =
      let push = callers_of-push done s in
      let more : lines_of g ns done ++ submission_words g s ≡ lines_of g ns (done ++ s ∷ []) = simp joined in
      faultless_append (judge g) (lines_of g ns done) (submission_words g s) (flat_map (submission_words g) rest)
      (submission_faultless done all.0 (room_for (callers_of done) s rest few space))
      (subst (λ ls. HaveNoFault (judge g) ls (flat_map (submission_words g) rest)) (sym more)
      (submissions_faultless (done ++ s ∷ []) rest all.1
      (subst (λ c. count_scripts (fold add_submission c rest) ≤ MOST_SCRIPTS) (sym push) few)
      (subst (λ c. length (fold add_submission c rest) ≤ MOST_CALLERS) (sym push) space)))

  -- the scripts of callers
  pub scripts_faultless : (subs : List (SubmissionOf S)) → AreCallers (IsScriptIn g ns) (callers_of subs)
      → HaveNoFault (judge g) (lines_of g ns []) (flat_map (submission_words g) subs)
  scripts_faultless subs valid =
      submissions_faultless [] subs (scripts_are_good (IsScriptIn g ns) subs valid)
      (subst (λ c. count_scripts c ≤ MOST_SCRIPTS) (callers_of-gathered subs) valid.few_scripts)
      (subst (λ c. length c ≤ MOST_CALLERS) (callers_of-gathered subs) valid.few)

  -- the header, and the line that begins the scripts
  pub front_faultless : HaveNoFault (judge g) [] (lines_of g ns [])
  front_faultless = (
    head_AreWords g ns lawful sized,
    head_fine g ns sized,
    head_goes_on g ns,
    (record { some = omega arith; each = (word_from_test (codes "scripts") refl, tt) }, refl, refl, tt),
  )

  -- all lines of a text before its last
  pub text_faultless : (subs : List (SubmissionOf S)) → AreCallers (IsScriptIn g ns) (callers_of subs) → HaveNoFault (judge g) [] (lines_of g ns subs)
  text_faultless subs valid = faultless_append (judge g) [] (lines_of g ns []) (flat_map (submission_words g) subs) front_faultless
      (scripts_faultless subs valid)
