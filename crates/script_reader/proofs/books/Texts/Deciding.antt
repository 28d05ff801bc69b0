-- A text is of an input, or has a first fault.
use Rattle.script_reader.proofs.Common.{◌≡◌, ◌⊎◌, ℕ, List, [], ◌∷◌, ◌++◌, codes, length, sum_by, operations_of, alternatives_in, Some, None, refl, sym, ap}
use Rattle.script_reader.proofs.Common.{subst, ◌∙◌, flat_map, none-some, Fault, Version, line, finish_line, ClearingInput, callers_of, Spells, IsValidInput}
use Rattle.script_reader.proofs.Common.{Open, BetweenParts, InFirst, InSecond, parts_with, lines_so_far, Words, IsFrontFault, IsFirstFault, inside_fault}
use Rattle.script_reader.proofs.Common.{fault_of, HasFault, AreCallersOf}
use Rattle.script_reader.proofs.books.Regions.{region_of}
use Rattle.script_reader.proofs.books.Versions.{callers_for, callers_within, callers_of_version}
use Rattle.script_reader.proofs.books.Printing.Printed.{books_fault_is}
use Rattle.script_reader.proofs.books.Printing.Scripted.{in_books, outside_fault_is, inside_fault_is}
use Rattle.script_reader.proofs.books.WithoutFault.BooksFaultless.{printed, printed_small}
use Rattle.script_reader.proofs.books.WithoutFault.ScriptsFaultless.{input_faultless}
use Rattle.script_reader.proofs.books.Texts.OneReading.{text_of_input}
use Rattle.script_reader.proofs.books.Texts.Reaching.{IsReached, AtStart, InBooks, Outside, WithinScript, Between, reach_all}
use Rattle.script_reader.proofs.Judged.{IsWhole}
use Rattle.script_reader.specs.declared.fault.Fault.TheVariants as fault
use Rattle.script_reader.proofs.Judged as judged

-- the last line of a text is none of a script
no_finish : (version : Version) (stage : Open) (instruments count alternatives : ℕ)
    → inside_fault version (region_of stage) instruments count alternatives (codes "finish" ∷ []) ≡ Some fault.Word
no_finish version BetweenParts instruments count alternatives = refl
no_finish version (InFirst first) instruments count alternatives = refl
no_finish version (InSecond first second) instruments count alternatives = refl

-- the last line stands behind scripts that have ended
pub at_finish : {lines : List Words} → IsReached lines → fault_of lines (codes "finish" ∷ []) ≡ None → Between lines
at_finish (AtStart e) none = absurd (none-some _ (sym (sym (ap (λ l. fault_of l (codes "finish" ∷ [])) e) ∙ none)))
at_finish (InBooks version b range within e) none =
    absurd (none-some _ (sym (sym (ap (λ l. fault_of l (codes "finish" ∷ [])) e
    ∙ in_books (printed version b) (codes "finish" ∷ []) ∙ books_fault_is (codes "finish" ∷ []) (printed_small range version)) ∙ none)))
at_finish (Outside r) none = r
at_finish (WithinScript r) none =
    absurd (none-some _ (sym (sym (ap (λ l. fault_of l (codes "finish" ∷ [])) r.lines_are
    ∙ inside_fault_is r.subs r.name r.parts r.stage (codes "finish" ∷ []) (printed_small r.range r.version)
    ∙ no_finish r.version r.stage (printed r.version r.books).instruments (length (operations_of (parts_with r.parts r.stage)))
    (sum_by alternatives_in (parts_with r.parts r.stage)))
    ∙ none)))

-- its callers are those that a text of its version can give
pub callers_spelled : {text : List ℕ} {input : ClearingInput} (h : Spells text input) → AreCallersOf h.version input.books (callers_of h.submissions)
callers_spelled {input} h =
    subst (AreCallersOf h.version input.books) h.callers (callers_of_version h.version input.books h.valid.callers h.within.scripts)

-- the lines of an input
abbrev pub whole : (text : List ℕ) → IsValidInput text → IsWhole fault_of text
whole text (input, h) = record {
  lines = lines_so_far h.version input.books h.submissions;
  faultless = input_faultless h.version h.valid.books h.within.books h.submissions (callers_spelled h);
  ends = outside_fault_is (printed h.version input.books) h.submissions (codes "finish" ∷ []);
  text_is = h.text ∙ text_of_input h.version input.books h.submissions;
}

-- lines behind which the last line may stand spell an input
pub spells : {lines : List Words} → (r : Between lines) → Spells (flat_map line lines ++ finish_line) (record { books = r.books; callers = callers_of r.subs })
spells r = record {
  version = r.version;
  submissions = r.subs;
  text = ap (λ l. flat_map line l ++ finish_line) r.lines_are ∙ sym (text_of_input r.version r.books r.subs);
  callers = refl;
  valid = record { books = r.range; callers = callers_for r.version r.books (callers_of r.subs) r.valid };
  within = record { books = r.within; scripts = callers_within r.version r.books (callers_of r.subs) r.valid };
}

pub either : (text : List ℕ) → IsValidInput text ⊎ HasFault text
either = judged.either fault_of IsValidInput (λ lines f ends.
    let r = at_finish (reach_all lines (AtStart refl) f) ends in (record { books = r.books; callers = callers_of r.subs }, spells r))

-- a front that is of an input has no fault, and is one
pub front_not_both : (text front rest : List ℕ) (number : ℕ) (why : Fault) → text ≡ front ++ rest → IsValidInput front → IsFrontFault text number why → ⊥
front_not_both = judged.front_not_both fault_of IsValidInput whole

pub fronts_once : (text front rest other left : List ℕ) → text ≡ front ++ rest → text ≡ other ++ left → IsValidInput front → IsValidInput other
    → (front ≡ other) × (rest ≡ left)
fronts_once = judged.fronts_once fault_of IsValidInput whole

pub not_both : (text : List ℕ) → IsValidInput text → HasFault text → ⊥
not_both = judged.not_both fault_of IsValidInput whole

pub one_fault : (text : List ℕ) (number other : ℕ) (why reason : Fault) → IsFirstFault text number why
    → IsFirstFault text other reason → (number ≡ other) × (why ≡ reason)
one_fault = judged.one_fault fault_of IsValidInput whole
