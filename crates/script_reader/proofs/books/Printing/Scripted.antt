-- What the lines of books and of scripts say of a line behind them.
use Rattle.script_reader.proofs.Common.{◌≡◌, ℕ, ◌+◌, false, cond, if◌then◌else◌, List, [], ◌∷◌, ◌++◌, codes, map, filter, fold, length, length-append, sum_by}
use Rattle.script_reader.proofs.Common.{refl, sym, ap, ◌∙◌, arith, AllByRecursion, flat_map, append-nil, filter-append, fold-append, sum_by-append, sum_by-cons}
use Rattle.script_reader.proofs.Common.{Op, Part, operations_in, operations_of, alternatives_in, account_words, price_words, position_words, call_words}
use Rattle.script_reader.proofs.Common.{books_operation_words, part_words, Submission, callers_of, Open, BetweenParts, InFirst, InSecond, parts_with}
use Rattle.script_reader.proofs.Common.{script_words, books_submission_words, Words, Region, InScript, InFirstBranch, InSecondBranch, begins, is_only}
use Rattle.script_reader.proofs.Common.{AmongBooks, OutsideScripts, Inside, books_place_behind, place_fault, inside_fault, books_fault, fault_of}
use Rattle.script_reader.proofs.books.Regions.{region_of}
use Rattle.script_reader.specs.Inner.LinesAsWords.{open_words}
use Rattle.script_reader.specs.Faults.{books_place_after}
use Rattle.script_reader.proofs.Conditions.{all_append}
use Rattle.script_reader.proofs.text.Tokens.Numerals.{value_of_number}
use Rattle.script_reader.proofs.books.Versions.{version_read}
use Rattle.script_reader.proofs.books.OperationRows.{no_script, no_end, no_try, no_else, no_done}
use Rattle.script_reader.proofs.language.Grouped.Outside.{outside_in, outside_of}
use Rattle.script_reader.proofs.books.Printing.Opened.{first_count, second_count}
use Rattle.script_reader.proofs.books.Printing.Printed.{Printed, IsSmall, entries_of, print}
use Rattle.books_model.specs.declared.script.Part.TheVariants as part

-- the lines behind the books: the line `scripts`, and scripts that have ended
abbrev pub ended : List Submission → List Words
ended subs = (codes "scripts" ∷ []) ∷ flat_map books_submission_words subs

-- a script that has not ended
abbrev pub opened : List ℕ → List Part → Open → List Words
opened name parts stage = (codes "script" ∷ name ∷ []) ∷ script_words parts stage

-- where lines of operations lead, and an alternative
inside_is : (region : Region) {n k m l : ℕ} → n ≡ k → m ≡ l → Inside region n m ≡ Inside region k l
inside_is region e h i = Inside region (e i) (h i)

place_operations : (region : Region) (n m : ℕ) (ops : List Op)
    → fold books_place_after (Inside region n m) (map books_operation_words ops) ≡ Inside region (n + length ops) m
place_operations region n m [] = inside_is region (omega arith) refl
place_operations region n m (o ∷ ops) =
    (λ i. fold books_place_after (if no_end o i then OutsideScripts else
    (if no_try o i then Inside InFirstBranch n (m + 1) else
    (if no_else o i then Inside InSecondBranch n m else
    (if no_done o i then Inside InScript n m else Inside region (n + 1) m)))) (map books_operation_words ops))
    ∙ place_operations region (n + 1) m ops ∙ inside_is region (omega arith) refl

place_branches : (n m : ℕ) (first second : List Op) (rest : List Words)
    → fold books_place_after (Inside InScript n m)
    ((codes "try" ∷ []) ∷ (map books_operation_words first ++ ((codes "else" ∷ []) ∷ (map books_operation_words second ++ rest))))
    ≡ fold books_place_after (Inside InSecondBranch (n + length first + length second) (m + 1)) rest
place_branches n m first second rest =
    fold-append books_place_after (Inside InFirstBranch n (m + 1)) (map books_operation_words first)
    ((codes "else" ∷ []) ∷ (map books_operation_words second ++ rest))
    ∙ ap (λ p. fold books_place_after p ((codes "else" ∷ []) ∷ (map books_operation_words second ++ rest))) (place_operations InFirstBranch n (m + 1) first)
    ∙ fold-append books_place_after (Inside InSecondBranch (n + length first) (m + 1)) (map books_operation_words second) rest
    ∙ ap (λ p. fold books_place_after p rest) (place_operations InSecondBranch (n + length first) (m + 1) second)

-- and of parts and scripts
place_part : (n m : ℕ) (p : Part)
    → fold books_place_after (Inside InScript n m) (part_words p) ≡ Inside InScript (n + length (operations_in p)) (m + alternatives_in p)
place_part n m (part.One o) = place_operations InScript n m (o ∷ []) ∙ inside_is InScript refl (omega arith)
place_part n m (part.Either first second) =
    place_branches n m first second ((codes "done" ∷ []) ∷ []) ∙ inside_is InScript (omega (arith, length-append first second)) refl

place_parts : (n m : ℕ) (parts : List Part)
    → fold books_place_after (Inside InScript n m) (flat_map part_words parts)
    ≡ Inside InScript (n + length (operations_of parts)) (m + sum_by alternatives_in parts)
place_parts n m [] = inside_is InScript (omega arith) (omega arith)
place_parts n m (p ∷ parts) =
    fold-append books_place_after (Inside InScript n m) (part_words p) (flat_map part_words parts)
    ∙ ap (λ q. fold books_place_after q (flat_map part_words parts)) (place_part n m p)
    ∙ place_parts (n + length (operations_in p)) (m + alternatives_in p) parts
    ∙ inside_is InScript (omega (arith, length-append (operations_in p) (operations_of parts))) (omega (arith, sum_by-cons alternatives_in p parts))

-- a script that is open, and one that has ended
alternatives_count : (parts : List Part) (first second : List Op)
    → sum_by alternatives_in (parts ++ part.Either first second ∷ []) ≡ sum_by alternatives_in parts + 1
alternatives_count parts first second = sum_by-append alternatives_in parts (part.Either first second ∷ [])

place_open : (parts : List Part) (stage : Open)
    → fold books_place_after (Inside InScript (length (operations_of parts)) (sum_by alternatives_in parts)) (open_words stage)
    ≡ Inside (region_of stage) (length (operations_of (parts_with parts stage))) (sum_by alternatives_in (parts_with parts stage))
place_open parts BetweenParts = refl
place_open parts (InFirst first) =
    place_operations InFirstBranch (length (operations_of parts)) (sum_by alternatives_in parts + 1) first
    ∙ inside_is InFirstBranch (sym (first_count parts first)) (sym (alternatives_count parts first []))
place_open parts (InSecond first second) =
    ap (λ l. fold books_place_after (Inside InScript (length (operations_of parts)) (sum_by alternatives_in parts))
    ((codes "try" ∷ []) ∷ (map books_operation_words first ++ ((codes "else" ∷ []) ∷ l)))) (sym (append-nil (map books_operation_words second)))
    ∙ place_branches (length (operations_of parts)) (sum_by alternatives_in parts) first second []
    ∙ inside_is InSecondBranch (sym (second_count parts first second))
    (sym (alternatives_count parts first second))

place_opened : (name : List ℕ) (parts : List Part) (stage : Open)
    → fold books_place_after OutsideScripts (opened name parts stage)
    ≡ Inside (region_of stage) (length (operations_of (parts_with parts stage))) (sum_by alternatives_in (parts_with parts stage))
place_opened name parts stage =
    fold-append books_place_after (Inside InScript 0 0) (flat_map part_words parts) (open_words stage)
    ∙ ap (λ p. fold books_place_after p (open_words stage)) (place_parts 0 0 parts ∙ inside_is InScript (omega arith) (omega arith)) ∙ place_open parts stage

place_ended : (subs : List Submission) → fold books_place_after OutsideScripts (flat_map books_submission_words subs) ≡ OutsideScripts
place_ended [] = refl
place_ended (s ∷ subs) =
    fold-append books_place_after OutsideScripts (books_submission_words s) (flat_map books_submission_words subs)
    ∙ ap (λ p. fold books_place_after p (flat_map books_submission_words subs)) (
    fold-append books_place_after (Inside InScript 0 0) (flat_map part_words s.script) ((codes "end" ∷ []) ∷ [])
    ∙ ap (λ p. fold books_place_after p ((codes "end" ∷ []) ∷ [])) (place_parts 0 0 s.script)
    ) ∙ place_ended subs

-- all lines of books, and those with scripts
place_entries : {A : Type 0} (g : A → Words) (xs : List A) (rest : List Words) → ((x : A) → is_only (codes "scripts") (g x) ≡ false)
    → fold books_place_after AmongBooks (map g xs ++ rest) ≡ fold books_place_after AmongBooks rest
place_entries g [] rest none = refl
place_entries g (x ∷ xs) rest none =
    ap (λ b. fold books_place_after (if b then OutsideScripts else AmongBooks) (map g xs ++ rest)) (none x) ∙ place_entries g xs rest none

place_books : (p : Printed) → books_place_behind (print p) ≡ AmongBooks
place_books p =
    place_entries account_words p.accounts _ (λ e. refl) ∙ place_entries price_words p.prices _ (λ e. refl)
    ∙ place_entries position_words p.positions _ (λ e. refl)
    ∙ ap (fold books_place_after AmongBooks) (sym (append-nil (map call_words p.calls))) ∙ place_entries call_words p.calls [] (λ e. refl)

place_so_far : (p : Printed) (subs : List Submission) → books_place_behind (print p ++ ended subs) ≡ OutsideScripts
place_so_far p subs =
    fold-append books_place_after AmongBooks (print p) (ended subs) ∙ ap (λ q. fold books_place_after q (ended subs)) (place_books p) ∙ place_ended subs

-- lines that begin no script
abbrev NoScript : Words → Type 0
NoScript words = begins (codes "script") words ≡ false

no_script_begins : (ops : List Op) → AllByRecursion NoScript (map books_operation_words ops)
no_script_begins [] = tt
no_script_begins (o ∷ ops) = (no_script o, no_script_begins ops)

no_script_in_parts : (parts : List Part) → AllByRecursion NoScript (flat_map part_words parts)
no_script_in_parts [] = tt
no_script_in_parts (p ∷ parts) = all_append NoScript (part_words p) (flat_map part_words parts) (in_part p) (no_script_in_parts parts)
  where
    in_part : (p : Part) → AllByRecursion NoScript (part_words p)
    in_part (part.One o) = (no_script o, tt)
    in_part (part.Either first second) = (
      refl,
      all_append NoScript (map books_operation_words first) _ (no_script_begins first)
          (refl, all_append NoScript (map books_operation_words second) _ (no_script_begins second) (refl, tt)),
    )

-- the lines that begin a script
filter_free : (lines : List Words) → AllByRecursion NoScript lines → filter (begins (codes "script")) lines ≡ []
filter_free [] all = refl
filter_free (w ∷ lines) all = ap
    (λ b. cond b (w ∷ filter (begins (codes "script")) lines) (filter (begins (codes "script")) lines)) all.0 ∙ filter_free lines all.1

filter_submission : (s : Submission) → filter (begins (codes "script")) (books_submission_words s) ≡ (codes "script" ∷ s.caller ∷ []) ∷ []
filter_submission s =
    ap (λ l. (codes "script" ∷ s.caller ∷ []) ∷ l)
    (filter-append (begins (codes "script")) (flat_map part_words s.script) ((codes "end" ∷ []) ∷ [])
    ∙ ap (λ l. l ++ []) (filter_free (flat_map part_words s.script) (no_script_in_parts s.script)))

filter_ended : (subs : List Submission) → filter (begins (codes "script")) (flat_map books_submission_words subs)
    ≡ map (λ s. codes "script" ∷ s.caller ∷ []) subs
filter_ended [] = refl
filter_ended (s ∷ subs) =
    filter-append (begins (codes "script")) (books_submission_words s) (flat_map books_submission_words subs)
    ∙ (λ i. filter_submission s i ++ filter_ended subs i)

-- a filter that the lines of books do not pass
filter_none : {A : Type 0} (g : A → Words) (xs : List A) (rest : List Words) → ((x : A) → begins (codes "script") (g x) ≡ false)
    → filter (begins (codes "script")) (map g xs ++ rest) ≡ filter (begins (codes "script")) rest
filter_none g [] rest none = refl
filter_none g (x ∷ xs) rest none =
    ap (λ b. cond b (g x ∷ filter (begins (codes "script")) (map g xs ++ rest)) (filter (begins (codes "script")) (map g xs ++ rest))) (none x)
    ∙ filter_none g xs rest none

filter_entries : (p : Printed) → filter (begins (codes "script")) (entries_of p) ≡ []
filter_entries p =
    filter_none account_words p.accounts _ (λ e. refl) ∙ filter_none price_words p.prices _ (λ e. refl)
    ∙ filter_none position_words p.positions _ (λ e. refl)
    ∙ ap (filter (begins (codes "script"))) (sym (append-nil (map call_words p.calls))) ∙ filter_none call_words p.calls [] (λ e. refl)

begun : (p : Printed) (subs : List Submission) → filter (begins (codes "script")) (print p ++ ended subs) ≡ map (λ s. codes "script" ∷ s.caller ∷ []) subs
begun p subs =
    filter-append (begins (codes "script")) (print p) (ended subs)
    ∙ (λ i. filter_entries p i ++ filter_ended subs i)

-- what is wrong with a line behind scripts that have ended
pub outside_fault_is : (p : Printed) (subs : List Submission) (words : Words) → fault_of (print p ++ ended subs) words ≡ outside_in (callers_of subs) words
outside_fault_is p subs words =
    ap (λ q. place_fault q (print p ++ ended subs) words) (place_so_far p subs) ∙ outside_of (print p ++ ended subs) subs (begun p subs) words

-- with one in a script that has not
pub inside_fault_is : {p : Printed} (subs : List Submission) (name : List ℕ) (parts : List Part) (stage : Open) (words : Words) → IsSmall p
    → fault_of (print p ++ ended subs ++ opened name parts stage) words
    ≡ inside_fault p.version (region_of stage) p.instruments (length (operations_of (parts_with parts stage)))
    (sum_by alternatives_in (parts_with parts stage)) words
inside_fault_is {p} subs name parts stage words small =
    ap (λ q. place_fault q (print p ++ ended subs ++ opened name parts stage) words) (
    fold-append books_place_after AmongBooks (print p ++ ended subs) (opened name parts stage)
    ∙ ap (λ q. fold books_place_after q (opened name parts stage)) (place_so_far p subs) ∙ place_opened name parts stage
    )
    ∙ (λ i. inside_fault (version_read p.version i) (region_of stage) (value_of_number small.instruments i)
    (length (operations_of (parts_with parts stage))) (sum_by alternatives_in (parts_with parts stage)) words)

-- and with one of books
pub in_books : (p : Printed) (words : Words) → fault_of (print p) words ≡ books_fault (print p) words
in_books p words = ap (λ q. place_fault q (print p) words) (place_books p)
