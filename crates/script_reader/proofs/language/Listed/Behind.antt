-- What was read of a text, and the fault behind it.
use Rattle.script_reader.proofs.Common.{◌≡◌, ℕ, ◌≤◌, Bool, true, false, if◌then◌else◌, nat_le, List, [], ◌∷◌, ◌++◌, codes, map, length, All, Some, None, refl}
use Rattle.script_reader.proofs.Common.{sym, ap, subst, ◌∙◌, append_assoc, arith, flat_map, le-leb, recursion_from_All, none-some, MOST_OPERATIONS, Fault, line}
use Rattle.script_reader.proofs.Common.{end_line, finish_line, IsName, Words, is_only, is_script_line, first_reason, row_fault, CallerOf, SubmissionOf}
use Rattle.script_reader.proofs.Common.{AreCallers, IsFaultBehind, ListLanguage, AreSizes, IsListLanguage, IsOperationIn, IsScriptIn, operation_fault}
use Rattle.script_reader.proofs.Common.{operation_words, submission_words, lines_of, head_words, judge, is_beyond_in, HasTextInFront, lines_within}
use Rattle.script_reader.proofs.Common.{operations_text}
use Rattle.script_reader.specs.Gathered.{callers_of}
use Rattle.script_reader.specs.ListLanguage.{language_text}
use Rattle.script_reader.specs.Inner.ListScripts.{AreReadOf}
use Rattle.script_reader.proofs.Joined.{joined}
use Rattle.script_reader.proofs.language.Grouped.Submitting.{caller-AreWords}
use Rattle.script_reader.proofs.language.Grouped.Outside.{outside_other, outside_beyond}
use Rattle.script_reader.proofs.Judging.{behind_more}
use Rattle.script_reader.proofs.books.Texts.Following.{more_script}
use Rattle.script_reader.proofs.language.Listed.Standing.{outside_is, within_in, within_is, operation_is, within_more}
use Rattle.script_reader.proofs.language.Listed.Lawful.{begins_faultless, operations_faultless, scripts_faultless, front_faultless}
use Rattle.script_reader.specs.declared.fault.Fault.TheVariants as fault

-- one more reason behind those that there are
more_reasons : (word number limit more : Bool) {why : Fault}
    → first_reason ((word, fault.Word) ∷ (number, fault.Number) ∷ (limit, fault.Limit) ∷ []) ≡ Some why
    → first_reason ((word, fault.Word) ∷ (number, fault.Number) ∷ (limit, fault.Limit) ∷ (more, fault.Limit) ∷ []) ≡ Some why
more_reasons true number limit more h = h
more_reasons false true limit more h = h
more_reasons false false true more h = h
more_reasons false false false more h = absurd (none-some _ h)

module _ {O S : Type 0} {g : ListLanguage O S} (lawful : IsListLanguage g) (ns : List ℕ) (sized : AreSizes g ns) where
  -- a fault behind the line that begins the scripts
  pub behind_front : {start left after : List ℕ} {why : Fault} → start ≡ line (head_words g ns) ++ (line (codes "scripts" ∷ []) ++ left)
      → IsFaultBehind (judge g) (lines_of g ns []) left after why → IsFaultBehind (judge g) [] start after why
  behind_front {left} text h =
      behind_more {left = left} (lines_of g ns []) (front_faultless lawful ns sized)
      (text ∙ simp joined) h

  -- a fault behind scripts
  pub behind_scripts : (subs : List (SubmissionOf S)) {start left after : List ℕ} {why : Fault} → AreCallers (IsScriptIn g ns) (callers_of subs)
      → start ≡ flat_map line (flat_map (submission_words g) subs) ++ left
      → IsFaultBehind (judge g) (lines_of g ns subs) left after why → IsFaultBehind (judge g) (lines_of g ns []) start after why
  behind_scripts subs valid text h =
      behind_more (flat_map (submission_words g) subs) (scripts_faultless lawful ns sized subs valid) text h

  -- a fault inside the script that begins here
  pub behind_script : (subs : List (SubmissionOf S)) {name : List ℕ} {words : Words} {left middle after : List ℕ} {why : Fault}
      → words ≡ codes "script" ∷ name ∷ [] → IsName name → is_beyond_in (callers_of subs) name ≡ false → left ≡ line words ++ middle
      → IsFaultBehind (judge g) (lines_within g ns subs name []) middle after why → IsFaultBehind (judge g) (lines_of g ns subs) left after why
  behind_script subs {name} {middle} is named room text h =
      let first : Words = codes "script" ∷ name ∷ [] in
      behind_more {left = middle} (first ∷ [])
      (caller-AreWords name named, begins_faultless lawful ns sized subs name named room, refl, tt)
      (text ∙ simp (is, joined)) h

  -- a line between scripts that is neither the last one nor begins a script
  pub outside_word : (subs : List (SubmissionOf S)) (words : Words) → is_only (codes "finish") words ≡ false
      → is_script_line words ≡ false → judge g (lines_of g ns subs) words ≡ Some fault.Word
  outside_word subs words more no_script =
      outside_is g lawful ns subs words ∙ outside_other (callers_of subs) words more no_script

  -- one script too many, or one caller
  pub outside_limit : (subs : List (SubmissionOf S)) {name : List ℕ} {words : Words} → words ≡ codes "script" ∷ name ∷ []
      → IsName name → is_beyond_in (callers_of subs) name ≡ true → judge g (lines_of g ns subs) words ≡ Some fault.Limit
  outside_limit subs {words} is named beyond =
      outside_is g lawful ns subs words ∙ outside_beyond (callers_of subs) is named beyond

  module _ (subs : List (SubmissionOf S)) (name : List ℕ) (ops : List O) where
    -- a fault behind operations
    pub behind_operations : {start left after : List ℕ} {why : Fault} → All (IsOperationIn g ns) ops → length ops ≤ MOST_OPERATIONS
        → start ≡ operations_text g ops ++ left → IsFaultBehind (judge g) (lines_within g ns subs name ops) left after why
        → IsFaultBehind (judge g) (lines_within g ns subs name []) start after why
    behind_operations {left} {after} {why} all few text h =
        behind_more (map (operation_words g) ops)
        (operations_faultless lawful ns sized subs name [] ops (recursion_from_All _ _ all) (omega (arith, few))) text
        (subst (λ l. IsFaultBehind (judge g) l left after why) (sym (within_more g lawful ns subs name [] ops)) h)

    -- a line that is no operation, or whose numbers are wrong
    pub operation_wrong : (words : Words) {why : Fault} → is_only (codes "end") words ≡ false → row_fault (g.forms ns) words ≡ Some why
        → judge g (lines_within g ns subs name ops) words ≡ Some why
    operation_wrong words goes_on h =
        within_is g lawful ns sized subs name ops words
        ∙ (λ i. if goes_on i then None else operation_fault (g.forms ns) (length ops) words)
        ∙ more_reasons _ _ _ (nat_le MOST_OPERATIONS (length ops)) h

    -- one operation too many
    pub operation_limit : {words : Words} {o : O} → IsOperationIn g ns o → words ≡ operation_words g o → MOST_OPERATIONS ≤ length ops
        → judge g (lines_within g ns subs name ops) words ≡ Some fault.Limit
    operation_limit {words} h is full =
        within_is g lawful ns sized subs name ops words ∙ ap (within_in g lawful ns (length ops)) is
        ∙ operation_is g lawful (length ops) h (le-leb MOST_OPERATIONS (length ops) full)

module _ {O S : Type 0} (g : ListLanguage O S) where
  -- the text of scripts, with one more
  pub one_more_script : {start left middle : List ℕ} (after : List ℕ) (subs : List (SubmissionOf S)) (s : SubmissionOf S) {words : Words}
      → start ≡ flat_map line (flat_map (submission_words g) subs) ++ left → left ≡ line words ++ middle → words ≡ codes "script" ∷ s.caller ∷ []
      → middle ≡ operations_text g (g.operations s.script) ++ (end_line ++ after)
      → start ≡ flat_map line (flat_map (submission_words g) (subs ++ s ∷ [])) ++ after
  one_more_script after subs s text first is rest =
      more_script after (flat_map (submission_words g) subs) (map (operation_words g) (g.operations s.script)) text first is rest
      ∙ ap (λ l. flat_map line l ++ after) (simp joined)

  -- the front of a text whose header and scripts were read
  pub front_read : {ns : List ℕ} {callers : List (CallerOf S)} {start middle after : List ℕ} → AreSizes g ns
      → start ≡ line (head_words g ns) ++ (line (codes "scripts" ∷ []) ++ middle) → AreReadOf g ns callers middle after
      → HasTextInFront g ns callers start after
  front_read {ns} {after} sized text rest =
      let H : List ℕ = line (head_words g ns) in
      let C : List ℕ = line (codes "scripts" ∷ []) in
      let F : List ℕ = flat_map line (flat_map (submission_words g) rest.submissions) in
      record {
        front = language_text g ns rest.submissions;
        text = text ∙ ap (λ l. H ++ (C ++ l)) rest.text
            ∙ ap (λ l. H ++ l) (sym (append_assoc C F (finish_line ++ after)))
            ∙ sym (append_assoc H (C ++ F) (finish_line ++ after))
            ∙ sym (append_assoc (H ++ (C ++ F)) finish_line after);
        spelled = record { submissions = rest.submissions; text = refl; callers_are = rest.made; sized = sized; valid = rest.valid };
      }
