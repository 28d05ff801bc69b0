-- Lines without fault are those of books and scripts, as far as they go.
use Rattle.script_reader.proofs.Common.{◌≡◌, ◌⊎◌, inl, inr, ℕ, ◌<◌, true, false, not, ◌&&◌, nat_le, List, [], ◌∷◌, ◌++◌, codes, drop, length, sum_by, All, None}
use Rattle.script_reader.proofs.Common.{refl, sym, ap, subst, ◌∙◌, append_assoc, length-append, arith, is_none, leb-false, append-nil, All-push, ClearingBooks}
use Rattle.script_reader.proofs.Common.{AreInRange, MOST_ALTERNATIVES, MOST_OPERATIONS, Op, Part, operations_of, alternatives_in, MOST_CALLERS, MOST_SCRIPTS}
use Rattle.script_reader.proofs.Common.{books_operation_words, Open, BetweenParts, InFirst, InSecond, parts_with, script_words, books_words, lines_so_far}
use Rattle.script_reader.proofs.Common.{lines_inside, Submission, callers_of, IsName, is_caller, Words, Region, script_forms, turning_forms, form_of, ranges_of}
use Rattle.script_reader.proofs.Common.{is_only, are_numbers, are_in_range, AreBooksWithin, Row, with_row, inside_fault, fault_of, is_too_many, header_version}
use Rattle.script_reader.proofs.Common.{IsOperationOf, IsScriptOf, AreCallersOf, Version}
use Rattle.script_reader.proofs.Joined.{joined}
use Rattle.script_reader.proofs.books.Regions.{region_of}
use Rattle.script_reader.specs.Input.{count_scripts}
use Rattle.script_reader.proofs.books.NoneFaulty.{AreFaultless}
use Rattle.script_reader.proofs.books.Versions.{row_within}
use Rattle.script_reader.proofs.Conditions.{passed, neither}
use Rattle.script_reader.proofs.books.Printing.Printed.{books_fault_is, fault_at}
use Rattle.script_reader.proofs.books.Printing.Scripted.{in_books, outside_fault_is, inside_fault_is}
use Rattle.script_reader.proofs.books.OperationRows.{no_turning, operation_line}
use Rattle.script_reader.proofs.books.Printing.Opened.{parts_more, open_more, words_more, operations_more, alternatives_more, words_try, operations_try}
use Rattle.script_reader.proofs.books.Printing.Opened.{alternatives_try, words_else, words_done, inside_more}
use Rattle.script_reader.proofs.LineFaults.LineKinds.{none_applies, books_line, BooksLine, AccountLine, PriceLine, PositionLine, CallLine, ScriptsLine}
use Rattle.script_reader.proofs.LineFaults.LineKinds.{line_words, IsOneOf, end_or_try, closing}
use Rattle.script_reader.proofs.books.WithoutFault.BooksFaultless.{printed, printed_small, instruments_fit}
use Rattle.script_reader.proofs.language.Grouped.Submitting.{callers_more}
use Rattle.script_reader.proofs.language.Grouped.Grouping.{callers_of-push}
use Rattle.script_reader.proofs.language.Grouped.Outside.{begins_script, no_callers, outside_in}
use Rattle.script_reader.proofs.books.Printing.Extending.{AddsRow, has_no_fault, adds_account, adds_price, adds_position, adds_call, header_adds}
use Rattle.script_reader.proofs.books.Printing.Extending.{books_of_header}
use Rattle.books_model.specs.declared.script.Part.TheVariants as part
use Rattle.script_reader.specs.declared.fault.Fault.TheVariants as fault

-- books in range, and callers for them whose scripts have ended
pub record Between (lines : List Words) : Type 0 where
  pub version : Version
  pub books : ClearingBooks
  pub subs : List Submission
  pub range : AreInRange books
  pub within : AreBooksWithin version books
  pub valid : AreCallersOf version books (callers_of subs)
  pub lines_are : lines ≡ lines_so_far version books subs

-- and an open script, for which there is room
pub record Inside (lines : List Words) : Type 0 where
  pub version : Version
  pub books : ClearingBooks
  pub subs : List Submission
  pub name : List ℕ
  pub parts : List Part
  pub stage : Open
  pub range : AreInRange books
  pub within : AreBooksWithin version books
  pub valid : AreCallersOf version books (callers_of subs)
  pub is_name : IsName name
  pub script : IsScriptOf version books (parts_with parts stage)
  pub room : count_scripts (callers_of subs) < MOST_SCRIPTS
  pub space : is_caller name (callers_of subs) ≡ false → length (callers_of subs) < MOST_CALLERS
  pub lines_are : lines ≡ lines_inside version books subs name parts stage

-- how far lines without fault go
pub data IsReached (lines : List Words) : Type 0 where
  AtStart : lines ≡ [] → IsReached lines
  InBooks : (version : Version) (b : ClearingBooks) → AreInRange b → AreBooksWithin version b → lines ≡ books_words version b → IsReached lines
  Outside : Between lines → IsReached lines
  WithinScript : Inside lines → IsReached lines

-- a line of books
books_step : {version : Version} {b : ClearingBooks} (range : AreInRange b) → AreBooksWithin version b → (words : Words)
    → fault_of (books_words version b) words ≡ None → IsReached (books_words version b ++ words ∷ [])
books_step {version} {b} range within words none = by (books_line version b.instruments (has_no_fault (printed version b) words at).formed)
  where
    at : fault_at (printed version b) words ≡ None
    at = sym (in_books (printed version b) words ∙ books_fault_is words (printed_small range version)) ∙ none

    free : {these : Words} → words ≡ these → fault_at (printed version b) these ≡ None
    free e = subst (λ w. fault_at (printed version b) w ≡ None) e at

    added : {these : Words} (r : Row) → words ≡ these → AddsRow version range these r → IsReached (books_words version b ++ words ∷ [])
    added r e adds = InBooks version (with_row b r) adds.in_range (row_within r within adds.is_row.within)
        (ap (λ w. books_words version b ++ w ∷ []) e ∙ sym adds.is_row.lines)

    by : (l : BooksLine) × (words ≡ line_words l) → IsReached (books_words version b ++ words ∷ [])
    by (AccountLine a cash, e) = added _ e (adds_account version range a cash (free e))
    by (PriceLine i price, e) = added _ e (adds_price version range i price (free e))
    by (PositionLine a i quantity, e) = added _ e (adds_position version range a i quantity (free e))
    by (CallLine a shortfall, e) = added _ e (adds_call version range a shortfall (free e))
    by (ScriptsLine, e) = Outside (record {
      version = version;
      books = b;
      subs = [];
      range = range;
      within = within;
      valid = no_callers (IsScriptOf version b);
      lines_are =
          ap (λ w. books_words version b ++ w ∷ []) e;
    })

-- a line between scripts, which is not the last one
outside_step : {lines : List Words} (words : Words) → (r : Between lines) → fault_of lines words ≡ None
    → is_only (codes "finish") words ≡ false → IsReached (lines ++ words ∷ [])
outside_step words r none more =
    let at : outside_in (callers_of r.subs) words ≡ None = sym (ap (λ l. fault_of l words) r.lines_are
    ∙ outside_fault_is (printed r.version r.books) r.subs words) ∙ none in
    let begun = begins_script (callers_of r.subs) words at more in
    WithinScript (record {
      version = r.version;
      books = r.books;
      subs = r.subs;
      name = begun.name;
      parts = [];
      stage = BetweenParts;
      range = r.range;
      within = r.within;
      valid = r.valid;
      is_name = begun.named;
      script = record { few = omega arith; few_alternatives = omega arith; each = λ k d less. absurd (omega arith) };
      room = begun.room;
      space = begun.space;
      lines_are = (λ t. r.lines_are t ++ begun.words_are t ∷ []);
    })

-- an operation for which there is room
operation_has_room : (count alternatives : ℕ) (o : Op) → is_too_many count alternatives (books_operation_words o) ≡ false → nat_le MOST_OPERATIONS count ≡ false
operation_has_room count alternatives o room =
    let limit = neither room in
    sym (ap (λ b. not b && nat_le MOST_OPERATIONS count) (no_turning o)) ∙ limit.0

-- the lines of a script that ends
ended_more : (version : Version) (b : ClearingBooks) (subs : List Submission) (name : List ℕ) (parts : List Part)
    → lines_inside version b subs name parts BetweenParts ++ (codes "end" ∷ []) ∷ []
    ≡ lines_so_far version b (subs ++ record { caller = name; script = parts } ∷ [])
ended_more version b subs name parts = simp joined

-- what is known of a line of a script to which no reason applies
pub record HasNoFaultInside (version : Version) (region : Region) (instruments count alternatives : ℕ) (words : Words) : Type 0 where
  pub formed : is_none (form_of (script_forms version region instruments) words) ≡ false
  pub numbers : are_numbers (drop 1 words) ≡ true
  pub ranges : are_in_range (drop 1 words) (ranges_of (form_of (script_forms version region instruments) words)) ≡ true
  pub few : is_too_many count alternatives words ≡ false

has_no_fault_inside : {version : Version} {region : Region} {instruments count alternatives : ℕ} {words : Words}
    → inside_fault version region instruments count alternatives words ≡ None → HasNoFaultInside version region instruments count alternatives words
has_no_fault_inside none =
    let n1 = none_applies _ fault.Word _ none in
    let n2 = none_applies _ fault.Number _ n1.1 in
    let n3 = none_applies _ fault.Limit _ n2.1 in
    let limit = neither n3.0 in
    record { formed = n1.0; numbers = passed n2.0; ranges = passed limit.0; few = limit.1 }

-- a script that has not ended, with one more operation for which there is room
operation_fits : {version : Version} {b : ClearingBooks} (parts : List Part) (stage : Open) (o : Op) → IsScriptOf version b (parts_with parts stage)
    → IsOperationOf version b o
    → length (operations_of (parts_with parts stage)) < MOST_OPERATIONS
    → IsScriptOf version b (parts_with (parts_more parts stage o) (open_more stage o))
operation_fits {version} {b} parts stage o script fits room = record {
  few = omega (arith, ap length (operations_more parts stage o), length-append (operations_of (parts_with parts stage)) (o ∷ []), room);
  few_alternatives = omega (arith, alternatives_more parts stage o, script.few_alternatives);
  each = subst (All (IsOperationOf version b)) (sym (operations_more parts stage o))
      (All-push (IsOperationOf version b) (operations_of (parts_with parts stage)) o script.each fits);
}

-- the line that begins an alternative for which there is room
try_fits : {version : Version} {b : ClearingBooks} {parts : List Part} → IsScriptOf version b parts → sum_by alternatives_in parts < MOST_ALTERNATIVES
    → IsScriptOf version b (parts_with parts (InFirst []))
try_fits {version} {b} {parts} script room = record {
  few = omega (arith, ap length (operations_try parts), script.few);
  few_alternatives = omega (arith, alternatives_try parts, room);
  each = subst (All (IsOperationOf version b)) (sym (operations_try parts)) script.each;
}

module _ {lines : List Words} (words : Words) (r : Inside lines) (none : fault_of lines words ≡ None) where
  -- no reason applies
  no_reason : HasNoFaultInside r.version (region_of r.stage) r.books.instruments (length (operations_of (parts_with r.parts r.stage)))
      (sum_by alternatives_in (parts_with r.parts r.stage)) words
  no_reason = has_no_fault_inside
      (sym (ap (λ l. fault_of l words) r.lines_are
      ∙ inside_fault_is r.subs r.name r.parts r.stage words (printed_small r.range r.version)) ∙ none)

  -- the script goes on with this line
  goes_on_with : (parts : List Part) (stage : Open) {these : Words} → words ≡ these → IsScriptOf r.version r.books (parts_with parts stage)
      → script_words parts stage ≡ script_words r.parts r.stage ++ these ∷ [] → IsReached (lines ++ words ∷ [])
  goes_on_with parts stage {these} is script more = WithinScript (record {
    version = r.version;
    books = r.books;
    subs = r.subs;
    name = r.name;
    parts = parts;
    stage = stage;
    range = r.range;
    within = r.within;
    valid = r.valid;
    is_name = r.is_name;
    script = script;
    room = r.room;
    space = r.space;
    lines_are = (λ t. r.lines_are t ++ is t ∷ []) ∙ sym (inside_more r.version r.books r.subs r.name r.parts parts r.stage stage (these ∷ []) more);
  })

  -- it goes on with an operation
  with_operation : (o : Op) → IsOperationOf r.version r.books o → words ≡ books_operation_words o → IsReached (lines ++ words ∷ [])
  with_operation o fits is =
      let room : nat_le MOST_OPERATIONS (length (operations_of (parts_with r.parts r.stage))) ≡ false =
      operation_has_room _ _ o (ap (is_too_many (length (operations_of (parts_with r.parts r.stage))) (sum_by alternatives_in (parts_with r.parts r.stage)))
      (sym is)
      ∙ no_reason.few) in
      goes_on_with (parts_more r.parts r.stage o) (open_more r.stage o) is
      (operation_fits r.parts r.stage o r.script fits (leb-false MOST_OPERATIONS _ room)) (words_more r.parts r.stage o)

-- a line of a script
within_step : {lines : List Words} (words : Words) → (r : Inside lines) → fault_of lines words ≡ None → IsReached (lines ++ words ∷ [])
within_step {lines} words r none = by r.stage refl
  where
    n : HasNoFaultInside r.version (region_of r.stage) r.books.instruments (length (operations_of (parts_with r.parts r.stage)))
        (sum_by alternatives_in (parts_with r.parts r.stage)) words
    n = no_reason words r none

    line_is : IsOneOf (turning_forms (region_of r.stage)) words ⊎ ((o : Op) × IsOperationOf r.version r.books o × (words ≡ books_operation_words o))
    line_is = operation_line r.version r.books (instruments_fit r.range) (turning_forms (region_of r.stage)) n.formed n.numbers n.ranges

    s : Submission
    s = record { caller = r.name; script = r.parts }

    at : (stage : Open) → r.stage ≡ stage → script_words r.parts r.stage ≡ script_words r.parts stage
    at stage is = ap (script_words r.parts) is

    by : (stage : Open) → r.stage ≡ stage → IsReached (lines ++ words ∷ [])
    by stage is = turn stage is (subst (λ o. IsOneOf (turning_forms (region_of o)) words ⊎
        ((o : Op) × IsOperationOf r.version r.books o × (words ≡ books_operation_words o))) is line_is)
      where
        turn : (stage : Open) → r.stage ≡ stage
            → IsOneOf (turning_forms (region_of stage)) words ⊎ ((o : Op) × IsOperationOf r.version r.books o × (words ≡ books_operation_words o))
            → IsReached (lines ++ words ∷ [])
        turn stage is (inr o) = with_operation words r none o.0 o.1 o.2
        turn BetweenParts is (inl turns) = elim (end_or_try words turns) [
          | inl e ↦ Outside (record {
            version = r.version;
            books = r.books;
            subs = r.subs ++ s ∷ [];
            range = r.range;
            within = r.within;
            valid = subst (AreCallersOf r.version r.books) (sym (callers_of-push r.subs s))
                (callers_more (IsScriptOf r.version r.books) (callers_of r.subs) s r.valid r.is_name
                (subst (λ o. IsScriptOf r.version r.books (parts_with r.parts o)) is r.script) r.room r.space);
            lines_are = (λ t. r.lines_are t ++ e t ∷ [])
                ∙ ap (λ o. lines_inside r.version r.books r.subs r.name r.parts o ++ (codes "end" ∷ []) ∷ []) is
                ∙ ended_more r.version r.books r.subs r.name r.parts;
          })
          | inr e ↦ goes_on_with words r none r.parts (InFirst []) e
              (try_fits (subst (λ o. IsScriptOf r.version r.books (parts_with r.parts o)) is r.script)
              (leb-false MOST_ALTERNATIVES _ (sym (ap (λ w. is_too_many (length (operations_of r.parts)) (sum_by alternatives_in r.parts) w) e)
              ∙ ap (λ o. is_too_many (length (operations_of (parts_with r.parts o))) (sum_by alternatives_in (parts_with r.parts o)) words) (sym is) ∙ n.few)))
              (words_try r.parts ∙ ap (λ l. l ++ (codes "try" ∷ []) ∷ []) (sym (at BetweenParts is)))
        ]
        turn (InFirst first) is (inl turns) =
            goes_on_with words r none r.parts (InSecond first []) (closing turns)
            (subst (λ o. IsScriptOf r.version r.books (parts_with r.parts o)) is r.script)
            (words_else r.parts first ∙ ap (λ l. l ++ (codes "else" ∷ []) ∷ []) (sym (at (InFirst first) is)))
        turn (InSecond first second) is (inl turns) =
            goes_on_with words r none (r.parts ++ part.Either first second ∷ []) BetweenParts (closing turns)
            (subst (λ o. IsScriptOf r.version r.books (parts_with r.parts o)) is r.script)
            (words_done r.parts first second ∙ ap (λ l. l ++ (codes "done" ∷ []) ∷ []) (sym (at (InSecond first second) is)))

-- one more line without fault
pub reach : {lines : List Words} (words : Words) → IsReached lines → fault_of lines words ≡ None
    → is_only (codes "finish") words ≡ false → IsReached (lines ++ words ∷ [])
reach words (AtStart e) none more = subst (λ l. IsReached (l ++ words ∷ [])) (sym e) (
    let h = header_adds words (sym (ap (λ l. fault_of l words) e) ∙ none) in
    InBooks (header_version words) (books_of_header words) h.in_range h.within (sym h.lines)
    )
reach words (InBooks version b range within e) none more =
    subst (λ l. IsReached (l ++ words ∷ [])) (sym e) (books_step range within words (sym (ap (λ l. fault_of l words) e) ∙ none))
reach words (Outside r) none more = outside_step words r none more
reach words (WithinScript r) none more = within_step words r none

-- all lines without fault
pub reach_all : {before : List Words} (more : List Words) → IsReached before → AreFaultless before more → IsReached (before ++ more)
reach_all {before} [] r f = subst IsReached (sym (append-nil before)) r
reach_all {before} (w ∷ more) r f = subst IsReached (append_assoc before (w ∷ []) more) (reach_all more (reach w r f.1 f.2) f.3)
