-- The first fault of a text: its line, and the first reason that applies to that line beside those before it.
-- Reasons are tried in this order, each if it can apply: header, word, order of kinds, number, limit, order of
-- lines, account, price, blocks. `IsFirstFault` has what is beside them: a line that does not exist, or comes after
-- the last.
use Rattle.std.specs.Prelude.{◌⊎◌, ℕ, ◌+◌, Bool, not, ◌&&◌, ◌||◌, ◌==◌, nat_lt, nat_le, if◌then◌else◌, List, [], ◌∷◌, Option, Some}
use Rattle.std.specs.Prelude.{None, codes, length, drop, map, filter, fold, count_by, slice_index_or}
use Rattle.std.specs.List.{list_any, position_or_len}
use Rattle.std.specs.Option.{is_none}
use Rattle.std.specs.Str.{bytes_eq}
use Rattle.books_model.specs.declared.limits.TheConstants.{MOST_OPERATIONS, MOST_ALTERNATIVES}
use Rattle.script_reader.specs.declared.limits.TheConstants.{MOST_CALLERS, MOST_SCRIPTS}
use Rattle.script_reader.specs.declared.fault.Fault.{Fault}
use Rattle.script_reader.specs.declared.fault.Fault.TheVariants as fault
use Rattle.script_reader.specs.declared.books.version.Version.{Version}
use Rattle.script_reader.specs.declared.books.version.Version.TheVariants.{Two}
use Rattle.script_reader.specs.Lines.{word_at}
use Rattle.script_reader.specs.Input.{first_seen}
use Rattle.script_reader.specs.Grammar.{IsValidInput}
use Rattle.script_reader.specs.Versions.{version_of}
use Rattle.script_reader.specs.Reading.{IsFaultBehind, IsFaultInFront, GoesOnBehind}
use Rattle.script_reader.specs.Forms.{Words, Region, InScript, InFirstBranch, InSecondBranch, sizes, books_forms}
use Rattle.script_reader.specs.Forms.{script_forms, begins, is_only, form_of, ranges_of, is_header, is_script_line, books_size_words}
use Rattle.script_reader.specs.Forms.{word_value, are_numbers, are_in_range}

-- the first reason of a list that applies
abbrev pub first_reason : List (Bool × Fault) → Option Fault
first_reason [] = None
first_reason (reason ∷ reasons) = if reason.0 then Some reason.1 else first_reason reasons

-- a size of the books, by its place in their header
abbrev pub size_at : List Words → ℕ → ℕ
size_at before i = word_value (slice_index_or before 0 []) i

-- the version of a header
abbrev pub header_version : Words → Version
header_version words = version_of (word_at words 1)

-- the version of a text, by its header
abbrev pub version_at : List Words → Version
version_at before = header_version (slice_index_or before 0 [])

-- what is wrong with the first line
abbrev pub header_fault : Words → Option Fault
header_fault words = first_reason (
    (not (is_header words), fault.Header)
    ∷ (not (are_numbers (books_size_words words)), fault.Number)
    ∷ (not (are_in_range (books_size_words words) (sizes (header_version words))), fault.Limit)
    ∷ []
    )

-- which kind of line of books a line is, from 0, in the order in which they stand, whatever its numbers
abbrev pub kind_of : Words → ℕ
kind_of words = position_or_len (λ f. begins f.keyword words) (books_forms Two 0)

-- accounts, prices and positions take a block each
abbrev pub takes_block : Words → Bool
takes_block words = nat_lt (kind_of words) 3

-- that by which lines of a kind rise: a number, or two of which the first goes first
abbrev pub line_key : Words → ℕ × ℕ
line_key words = (word_value words 1, if begins (codes "position") words then word_value words 2 else 0)

abbrev pub is_below : ℕ × ℕ → ℕ × ℕ → Bool
is_below x y = nat_lt x.0 y.0 || (x.0 == y.0 && nat_lt x.1 y.1)

-- some line before is of a kind that stands behind that of this one
abbrev pub is_late : List Words → Words → Bool
is_late before words = list_any (λ w. nat_lt (kind_of words) (kind_of w)) (drop 1 before)

-- this line takes a block, and does not rise above all of its kind before it
abbrev pub is_low : List Words → Words → Bool
is_low before words =
    list_any (λ w. takes_block w
    && ((kind_of w == kind_of words) && not (is_below (line_key w) (line_key words)))) (drop 1 before)

-- a line before it is this kind of line for the number
abbrev pub is_given : List Words → List ℕ → ℕ → Bool
is_given before keyword n = list_any (λ w. begins keyword w && word_value w 1 == n) before

-- what is wrong with a line before the scripts, or with the line that begins them
abbrev pub books_fault : List Words → Words → Option Fault
books_fault before words =
    let form = form_of (books_forms (version_at before) (size_at before 5)) words in
    first_reason (
    (is_none form, fault.Word)
    ∷ (is_late before words, fault.Order)
    ∷ (not (are_numbers (drop 1 words)), fault.Number)
    ∷ (
      not (are_in_range (drop 1 words) (ranges_of form)) || (begins (codes "call") words && nat_le (size_at before 7)
          (count_by (begins (codes "call")) before)),
      fault.Limit,
    )
    ∷ (is_low before words, fault.Order)
    ∷ (begins (codes "position") words && not (is_given before (codes "account") (word_value words 1)), fault.Account)
    ∷ (begins (codes "position") words && not (is_given before (codes "price") (word_value words 2)), fault.Price)
    ∷ (takes_block words && nat_le (size_at before 3) (count_by takes_block before), fault.Blocks)
    ∷ []
    )

-- the callers of the scripts before, in the order in which they are first seen
abbrev pub callers_before : List Words → List (List ℕ)
callers_before before = first_seen (map (λ w. word_at w 1) (filter (begins (codes "script")) before))

-- a script of this caller would be one too many, or its caller
abbrev pub is_beyond : List Words → List ℕ → Bool
is_beyond before name =
    nat_le MOST_SCRIPTS (count_by (begins (codes "script")) before)
    || (not (list_any (bytes_eq name) (callers_before before)) && nat_le MOST_CALLERS (length (callers_before before)))

-- what is wrong with a line between scripts
abbrev pub outside_fault : List Words → Words → Option Fault
outside_fault before words = first_reason (
    (not (is_only (codes "finish") words || is_script_line words), fault.Word)
    ∷ (is_script_line words && is_beyond before (word_at words 1), fault.Limit)
    ∷ []
    )

-- where the line behind others stands: among the lines of books, between scripts, or in one behind so many operations,
-- those of both branches of an alternative counted, and so many alternatives
pub data BooksPlace : Type 0 where
  AmongBooks : BooksPlace
  OutsideScripts : BooksPlace
  Inside : Region → ℕ → ℕ → BooksPlace

-- where the line behind a line stands, by where that line does
abbrev pub books_place_after : BooksPlace → Words → BooksPlace
books_place_after AmongBooks words = if is_only (codes "scripts") words then OutsideScripts else AmongBooks
books_place_after OutsideScripts words = if begins (codes "script") words then Inside InScript 0 0 else OutsideScripts
books_place_after (Inside region operations alternatives) words =
    if is_only (codes "end") words then OutsideScripts
    else (if is_only (codes "try") words then Inside InFirstBranch operations (alternatives + 1)
    else (if is_only (codes "else") words then Inside InSecondBranch operations alternatives
    else (if is_only (codes "done") words then Inside InScript operations alternatives
    else Inside region (operations + 1) alternatives)))

-- where the line behind lines stands
abbrev pub books_place_behind : List Words → BooksPlace
books_place_behind before = fold books_place_after AmongBooks before

-- the line is no operation
abbrev pub is_turning : Words → Bool
is_turning words = is_only (codes "end") words || is_only (codes "try") words || is_only (codes "else") words || is_only (codes "done") words

-- the line is one operation too many, or one alternative
abbrev pub is_too_many : ℕ → ℕ → Words → Bool
is_too_many operations alternatives words =
    not (is_turning words) && nat_le MOST_OPERATIONS operations
    || is_only (codes "try") words && nat_le MOST_ALTERNATIVES alternatives

-- what is wrong with a line of a script on books with so many instruments, behind so many operations and alternatives
abbrev pub inside_fault : Version → Region → ℕ → ℕ → ℕ → Words → Option Fault
inside_fault version region instruments operations alternatives words =
    let form = form_of (script_forms version region instruments) words in
    first_reason (
    (is_none form, fault.Word)
    ∷ (not (are_numbers (drop 1 words)), fault.Number)
    ∷ (not (are_in_range (drop 1 words) (ranges_of form)) || is_too_many operations alternatives words, fault.Limit)
    ∷ []
    )

-- what is wrong with a line behind the header, by where it stands
abbrev pub place_fault : BooksPlace → List Words → Words → Option Fault
place_fault AmongBooks before words = books_fault before words
place_fault OutsideScripts before words = outside_fault before words
place_fault (Inside region operations alternatives) before words =
    inside_fault (version_at before) region (size_at before 5) operations alternatives words

-- what is wrong with a line of a text, beside the lines before it
abbrev pub fault_of : List Words → Words → Option Fault
fault_of [] words = header_fault words
fault_of (header ∷ lines) words = place_fault (books_place_behind (header ∷ lines)) (header ∷ lines) words

-- behind the lines before, the text has lines without fault, and then the fault; what is left stands behind the
-- faulty line
abbrev pub IsFaultyBehind : List Words → List ℕ → List ℕ → Fault → Type 0
IsFaultyBehind = IsFaultBehind fault_of

-- the first fault of a text up to its line `finish`; lines are numbered from 1
abbrev pub IsFrontFault : List ℕ → ℕ → Fault → Type 0
IsFrontFault = IsFaultInFront fault_of

-- the text goes on behind the line `finish`
abbrev pub GoesOn : List ℕ → ℕ → Fault → Type 0
GoesOn = GoesOnBehind IsValidInput

-- the first fault of a whole text
abbrev pub IsFirstFault : List ℕ → ℕ → Fault → Type 0
IsFirstFault text number why = IsFrontFault text number why ⊎ GoesOn text number why
