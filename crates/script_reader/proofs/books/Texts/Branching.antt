-- The branches of an alternative that were read, and the fault behind them.
use Rattle.script_reader.proofs.Common.{◌≡◌, ◌<◌, ◌≤◌, ◌+◌, ℕ, true, false, cond, not, ◌||◌, List, [], ◌∷◌, ◌++◌, All, codes, map, drop, length, sum_by, Some}
use Rattle.script_reader.proofs.Common.{None, sym, ap, subst, refl, ◌∙◌, arith, flat_map, is_none, le-leb, lt-leb, recursion_from_All, append-nil}
use Rattle.script_reader.proofs.Common.{ClearingBooks, AreInRange, operations_of, alternatives_in, MOST_ALTERNATIVES, MOST_OPERATIONS, Op, Part, Fault, line}
use Rattle.script_reader.proofs.Common.{books_operation_words, part_words, script_lines, Submission, Open, BetweenParts, InFirst, InSecond, parts_with}
use Rattle.script_reader.proofs.Common.{lines_inside, script_words, closing_word, row_fault, Words, Form, Region, InScript, form, has_form, operation_forms}
use Rattle.script_reader.proofs.Common.{turning_forms, form_of, is_only, ranges_of, are_numbers, are_in_range, IsFaultyBehind, inside_fault, fault_of}
use Rattle.script_reader.proofs.Common.{first_reason, is_too_many, IsOperationOf, IsScriptOf, Version}
use Rattle.script_reader.specs.declared.books.scripts.Branch.{Branch}
use Rattle.script_reader.proofs.books.Regions.{region_of}
use Rattle.script_reader.specs.Inner.Branches.{branch_with}
use Rattle.script_reader.proofs.books.NoneFaulty.{AreFaultless}
use Rattle.script_reader.proofs.books.Printing.Scripted.{inside_fault_is}
use Rattle.script_reader.proofs.books.Printing.Opened.{inside_more, rest_of_branch, first_count, second_count, words_try, words_else}
use Rattle.script_reader.proofs.books.WithoutFault.NoFault.{operation_fault, try_fault}
use Rattle.script_reader.proofs.books.WithoutFault.BooksFaultless.{printed_small, instruments_fit}
use Rattle.script_reader.proofs.books.WithoutFault.ScriptsFaultless.{operations_faultless, turning_faultless, parts_faultless}
use Rattle.script_reader.proofs.text.Tokens.Cutting.{word_from_test}
use Rattle.script_reader.proofs.LineFaults.LineKinds.{only_word}
use Rattle.script_reader.proofs.LineFaults.Refusing.{row_first}
use Rattle.script_reader.proofs.Judging.{behind_more}
use Rattle.script_reader.specs.declared.fault.Fault.TheVariants as fault
use Rattle.script_reader.specs.declared.books.scripts.Branch.TheVariants as branch

-- the lines of a branch behind its first
branch_lines : (version : Version) (b : ClearingBooks) (subs : List Submission) (name : List ℕ) (parts : List Part) (which : Branch) (first ops : List Op)
    → lines_inside version b subs name parts (branch_with which first ops) ≡ lines_inside version b subs name parts (branch_with which first [])
    ++ map books_operation_words ops
branch_lines version b subs name parts branch.First first ops =
    inside_more version b subs name parts parts (InFirst []) (InFirst ops) (map books_operation_words ops) (rest_of_branch parts ops []).0
branch_lines version b subs name parts branch.Second first ops =
    inside_more version b subs name parts parts (InSecond first []) (InSecond first ops) (map books_operation_words ops) (rest_of_branch parts first ops).1

-- how many operations there are in a branch
branch_count : (parts : List Part) (which : Branch) (first ops : List Op)
    → length (operations_of (parts_with parts (branch_with which first ops)))
    ≡ length (operations_of (parts_with parts (branch_with which first []))) + length ops
branch_count parts branch.First first ops = omega (arith, first_count parts ops, first_count parts [])
branch_count parts branch.Second first ops = omega (arith, second_count parts first ops, second_count parts first [])

-- a line that is of none of the forms behind others has the form that it has among those
forms_behind : (forms others : List Form) (words : Words) → form_of others words ≡ None → form_of (forms ++ others) words ≡ form_of forms words
forms_behind [] others words none = none
forms_behind (f ∷ forms) others words none = ap (λ o. cond (has_form words f) (Some f) o) (forms_behind forms others words none)

-- what is wrong with a line as with an operation is wrong with it wherever it is no other line
pub wrong_in : (version : Version) (region : Region) (instruments count alternatives : ℕ) (words : Words) {why : Fault}
    → form_of (turning_forms region) words ≡ None
    → row_fault (operation_forms version instruments) words ≡ Some why → inside_fault version region instruments count alternatives words ≡ Some why
wrong_in version region instruments count alternatives words none h =
    (λ i. let form = forms_behind (operation_forms version instruments) (turning_forms region) words none i in
    first_reason (
    (is_none form, fault.Word)
    ∷ (not (are_numbers (drop 1 words)), fault.Number)
    ∷ (not (are_in_range (drop 1 words) (ranges_of form)) || is_too_many count alternatives words, fault.Limit)
    ∷ []
    )) ∙ row_first _ _ _ _ h

-- a line that does not end a branch
no_closing : (which : Branch) (parts : List Part) (first ops : List Op) (words : Words) → is_only (closing_word which) words ≡ false
    → form_of (turning_forms (region_of (branch_with which first ops))) words ≡ None
no_closing branch.First parts first ops words other = ap (λ b. cond b (Some (form (codes "else") [])) None) other
no_closing branch.Second parts first ops words other = ap (λ b. cond b (Some (form (codes "done") [])) None) other

-- a line that neither ends a script nor begins an alternative
pub no_turn : (words : Words) → is_only (codes "end") words ≡ false → is_only (codes "try") words ≡ false → form_of (turning_forms InScript) words ≡ None
no_turn words ends tries =
    (λ i. cond (ends i) (Some (form (codes "end") [])) (cond (tries i) (Some (form (codes "try") [])) None))

module _ (version : Version) {b : ClearingBooks} (range : AreInRange b) (which : Branch) (subs : List Submission) (name : List ℕ) (parts : List Part)
    (first ops : List Op) where
  -- a fault behind operations of a branch that were read
  pub behind_branch : {start left after : List ℕ} {why : Fault} → All (IsOperationOf version b) ops
      → length (operations_of (parts_with parts (branch_with which first []))) + length ops ≤ MOST_OPERATIONS
      → start ≡ flat_map line (map books_operation_words ops) ++ left
      → IsFaultyBehind (lines_inside version b subs name parts (branch_with which first ops)) left after why
      → IsFaultyBehind (lines_inside version b subs name parts (branch_with which first [])) start after why
  behind_branch {left} {after} {why} each few text h =
      behind_more (map books_operation_words ops)
      (operations_faultless version range subs name parts (branch_with which first []) ops (recursion_from_All (IsOperationOf version b) ops each) few) text
      (subst (λ l. IsFaultyBehind l left after why) (branch_lines version b subs name parts which first ops) h)

  -- a line that is neither an operation nor ends the branch, or an operation with a fault of its own
  pub branch_operation_fault : (words : Words) {why : Fault} → is_only (closing_word which) words ≡ false
      → row_fault (operation_forms version b.instruments) words ≡ Some why
      → fault_of (lines_inside version b subs name parts (branch_with which first ops)) words ≡ Some why
  branch_operation_fault words other h =
      inside_fault_is subs name parts (branch_with which first ops) words (printed_small range version)
      ∙ wrong_in version (region_of (branch_with which first ops)) b.instruments _ _ words (no_closing which parts first ops words other) h

  -- one operation too many
  pub branch_limit : {words : Words} (o : Op) → IsOperationOf version b o → words ≡ books_operation_words o
      → MOST_OPERATIONS ≤ length (operations_of (parts_with parts (branch_with which first []))) + length ops
      → fault_of (lines_inside version b subs name parts (branch_with which first ops)) words ≡ Some fault.Limit
  branch_limit {words} o fits is full =
      inside_fault_is subs name parts (branch_with which first ops) words (printed_small range version)
      ∙ ap (inside_fault version (region_of (branch_with which first ops)) b.instruments _ _) is
      ∙ operation_fault version b (instruments_fit range) (region_of (branch_with which first ops))
      (length (operations_of (parts_with parts (branch_with which first ops)))) _
      (le-leb MOST_OPERATIONS _ (omega (arith, full, branch_count parts which first ops))) o fits

module _ (version : Version) {b : ClearingBooks} (range : AreInRange b) (subs : List Submission) (name : List ℕ) where
  -- a fault behind one line that turns a script
  behind_turn : (parts : List Part) (stage next : Open) (word : List ℕ) {start left after : List ℕ} {why : Fault}
      → AreFaultless (lines_inside version b subs name parts stage) ((word ∷ []) ∷ []) → script_words parts next ≡ script_words parts stage ++ (word ∷ []) ∷ []
      → start ≡ line (word ∷ []) ++ left → IsFaultyBehind (lines_inside version b subs name parts next) left after why
      → IsFaultyBehind (lines_inside version b subs name parts stage) start after why
  behind_turn parts stage next word {left} {after} {why} fine more text h =
      behind_more ((word ∷ []) ∷ []) fine
      (text ∙ ap (λ l. l ++ left) (sym (append-nil (line (word ∷ [])))))
      (subst (λ l. IsFaultyBehind l left after why) (inside_more version b subs name parts parts stage next ((word ∷ []) ∷ []) more) h)

  -- a fault in the second branch
  pub behind_first : (parts : List Part) (first : List Op) {start left after : List ℕ} {why : Fault} → All (IsOperationOf version b) first
      → length (operations_of parts) + length first ≤ MOST_OPERATIONS
      → start ≡ flat_map line (map books_operation_words first) ++ (line (codes "else" ∷ []) ++ left)
      → IsFaultyBehind (lines_inside version b subs name parts (InSecond first [])) left after why
      → IsFaultyBehind (lines_inside version b subs name parts (InFirst [])) start after why
  behind_first parts first each few text h =
      behind_branch version range branch.First subs name parts [] first each
      (omega (arith, few, first_count parts [])) text
      (behind_turn parts (InFirst first) (InSecond first []) (codes "else")
      (turning_faultless version range subs name parts (InFirst first) (codes "else") (word_from_test (codes "else") refl) refl refl)
      (words_else parts first) refl h)

  -- a fault behind parts that were read
  pub behind_parts_read : {script : List Part} {start left after : List ℕ} {why : Fault} → IsScriptOf version b script
      → start ≡ script_lines script ++ left → IsFaultyBehind (lines_inside version b subs name script BetweenParts) left after why
      → IsFaultyBehind (lines_inside version b subs name [] BetweenParts) start after why
  behind_parts_read {script} {left} {after} {why} valid text h =
      behind_more (flat_map part_words script)
      (parts_faultless version range subs name [] script valid.each (omega (arith, valid.few)) (omega (arith, valid.few_alternatives))) text
      (subst (λ l. IsFaultyBehind l left after why)
      (inside_more version b subs name [] script BetweenParts BetweenParts (flat_map part_words script) (append-nil (flat_map part_words script))) h)

  -- a fault in an alternative that was begun
  pub behind_try : (script : List Part) (words : Words) {start left after : List ℕ} {why : Fault} → is_only (codes "try") words ≡ true
      → sum_by alternatives_in script < MOST_ALTERNATIVES → start ≡ line words ++ left
      → IsFaultyBehind (lines_inside version b subs name script (InFirst [])) left after why
      → IsFaultyBehind (lines_inside version b subs name script BetweenParts) start after why
  behind_try script words {left} tries room text h =
      behind_turn script BetweenParts (InFirst []) (codes "try")
      (turning_faultless version range subs name script BetweenParts (codes "try") (word_from_test (codes "try") refl) refl
      (try_fault version b.instruments (length (operations_of script)) (sum_by alternatives_in script)
      (lt-leb MOST_ALTERNATIVES (sum_by alternatives_in script) room)))
      (words_try script) (text ∙ ap (λ w. line w ++ left) (only_word (codes "try") words tries)) h

  -- one alternative too many
  pub try_limit : (script : List Part) (words : Words) → is_only (codes "try") words ≡ true → MOST_ALTERNATIVES ≤ sum_by alternatives_in script
      → fault_of (lines_inside version b subs name script BetweenParts) words ≡ Some fault.Limit
  try_limit script words tries full =
      inside_fault_is subs name script BetweenParts words (printed_small range version)
      ∙ ap (inside_fault version InScript b.instruments (length (operations_of script)) (sum_by alternatives_in script)) (only_word (codes "try") words tries)
      ∙ try_fault version b.instruments (length (operations_of script)) (sum_by alternatives_in script)
      (le-leb MOST_ALTERNATIVES (sum_by alternatives_in script) full)

  -- a line between parts that is no operation, or one with a fault of its own
  pub part_fault : (script : List Part) (words : Words) {why : Fault} → is_only (codes "end") words ≡ false → is_only (codes "try") words ≡ false
      → row_fault (operation_forms version b.instruments) words ≡ Some why → fault_of (lines_inside version b subs name script BetweenParts) words ≡ Some why
  part_fault script words ends tries h =
      inside_fault_is subs name script BetweenParts words (printed_small range version)
      ∙ wrong_in version InScript b.instruments _ _ words (no_turn words ends tries) h

  -- one operation too many
  pub part_limit : (script : List Part) {words : Words} (o : Op) → IsOperationOf version b o → words ≡ books_operation_words o
      → MOST_OPERATIONS ≤ length (operations_of script)
      → fault_of (lines_inside version b subs name script BetweenParts) words ≡ Some fault.Limit
  part_limit script {words} o fits is full =
      inside_fault_is subs name script BetweenParts words (printed_small range version)
      ∙ ap (inside_fault version InScript b.instruments (length (operations_of script)) (sum_by alternatives_in script)) is
      ∙ operation_fault version b (instruments_fit range) InScript (length (operations_of script)) _ (le-leb MOST_OPERATIONS _ full) o fits
