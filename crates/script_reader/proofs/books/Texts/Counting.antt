-- How many lines are read, and which of them is faulty.
use Rattle.script_reader.proofs.Common.{◌≡◌, ◌≢◌, ℕ, ◌+◌, ◌*◌, ◌<◌, ◌≤◌, ◌^◌, ◌==◌, Bool, not, ◌&&◌, ◌||◌, nat_le, List, [], ◌∷◌, ◌++◌, codes, map, drop}
use Rattle.script_reader.proofs.Common.{length, sum_by, Some, refl, ap, length-append, arith, flat_map, count_by, AllByRecursion, len-entries, length-map}
use Rattle.script_reader.proofs.Common.{sum_by-cons, MOST_ALTERNATIVES, MOST_BLOCKS, MOST_OPERATIONS, MOST_RING, MOST_SCRIPTS, Part, operations_in}
use Rattle.script_reader.proofs.Common.{operations_of, alternatives_in, ClearingBooks, AreInRange, LINE_FEED, Fault, account_words, price_words, position_words}
use Rattle.script_reader.proofs.Common.{call_words, part_words, Open, BetweenParts, InFirst, InSecond, parts_with, script_words, books_words}
use Rattle.script_reader.proofs.Common.{books_submission_words, lines_so_far, ClearingInput, Submission, callers_of, Spells, Words, Region, begins, word_value}
use Rattle.script_reader.proofs.Common.{are_numbers, are_in_range, ranges_of, form_of, books_forms, IsFaultyBehind, IsFrontFault, fault_of, books_fault}
use Rattle.script_reader.proofs.Common.{inside_fault, outside_fault, place_fault, books_place_behind, AmongBooks, OutsideScripts, Inside, is_late, is_low}
use Rattle.script_reader.proofs.Common.{is_given, takes_block, IsScriptOf, AreCallersOf, Version}
use Rattle.script_reader.proofs.Joined.{joined}
use Rattle.script_reader.proofs.books.NoneFaulty.{AreFaultless}
use Rattle.script_reader.specs.Faults.{BooksPlace, size_at, version_at}
use Rattle.script_reader.proofs.language.Grouped.Submitting.{IsGoodScript, scripts_are_good}
use Rattle.script_reader.proofs.books.Printing.Scripted.{opened}
use Rattle.script_reader.proofs.books.Texts.Reaching.{IsReached, AtStart, InBooks, Outside, WithinScript, reach_all}
use Rattle.script_reader.proofs.language.Grouped.Outside.{scripts_counted}
use Rattle.script_reader.proofs.books.Texts.Deciding.{whole}
use Rattle.script_reader.proofs.Judged.{Told, feeds, other, no_more}
use Rattle.std.specs.FinMap as finmap
use Rattle.books_model.specs.declared.script.Part.TheVariants as part
use Rattle.script_reader.specs.declared.fault.Fault.TheVariants as fault
use Rattle.script_reader.proofs.Judged as judged

-- lines for the entries of books in range, and lines behind them
pub few_entries : {A : Type 0} (b : ClearingBooks) → AreInRange b → (f g : ℕ × ℕ → A) (h : (ℕ × ℕ) × ℕ → A) (ends : List A)
    → length (map f (finmap.entries b.accounts) ++ (map g (finmap.entries b.prices) ++ (map h (finmap.entries b.positions) ++ ends)))
    ≤ MOST_BLOCKS + length ends
few_entries b range f g h ends = simp (length-append, length-map)
    (omega (arith, len-entries b.accounts, len-entries b.prices, len-entries b.positions, range.blocks_used, range.blocks.1))

-- books have few lines
few_of_books : (version : Version) {b : ClearingBooks} → AreInRange b → length (books_words version b) ≤ MOST_BLOCKS + MOST_RING + 1
few_of_books version {b} range = omega (
  arith,
  few_entries b range account_words price_words position_words (map call_words b.calls),
  length-map b.calls call_words,
  range.queue,
  range.ring.1,
)

-- a part has a line for each operation, and three more if it is an alternative
lines_of_part : (p : Part) → length (part_words p) ≡ length (operations_in p) + 3 * alternatives_in p
lines_of_part (part.One o) = refl
lines_of_part (part.Either first second) = simp (length-append, length-map) (omega arith)

lines_of_parts : (parts : List Part) → length (flat_map part_words parts) ≡ length (operations_of parts) + 3 * sum_by alternatives_in parts
lines_of_parts [] = omega arith
lines_of_parts (p ∷ parts) = simp length-append (omega (arith, sum_by-cons alternatives_in p parts, lines_of_part p, lines_of_parts parts))

-- an alternative that is open has no more lines than it has once it is done
lines_of_open : (parts : List Part) (stage : Open) → length (script_words parts stage) ≤ length (flat_map part_words (parts_with parts stage))
lines_of_open parts BetweenParts = omega (arith, length-append (flat_map part_words parts) [])
lines_of_open parts (InFirst first) = simp (length-append, joined) (omega arith)
lines_of_open parts (InSecond first second) = simp (length-append, joined) (omega arith)

-- the most lines of a script, with the line that begins it and the one that ends it
abbrev most_script_lines : ℕ
most_script_lines = MOST_OPERATIONS + 3 * MOST_ALTERNATIVES + 2

-- the most lines of books and scripts
abbrev pub most_lines : ℕ
most_lines = MOST_BLOCKS + MOST_RING + 2 + most_script_lines * MOST_SCRIPTS

-- scripts have few lines each
few_each : (version : Version) (b : ClearingBooks) (subs : List Submission) → AllByRecursion (IsGoodScript (IsScriptOf version b)) subs
    → length (flat_map books_submission_words subs) ≤ most_script_lines * length subs
few_each version b [] good = omega arith
few_each version b (s ∷ subs) good = simp length-append
    (omega (arith, lines_of_parts s.script, good.0.script.few, good.0.script.few_alternatives, few_each version b subs good.1))

-- so have books and scripts
few_so_far : {version : Version} {b : ClearingBooks} (subs : List Submission) → AreInRange b → AreCallersOf version b (callers_of subs)
    → length (lines_so_far version b subs) ≤ most_lines
few_so_far {version} {b} subs range valid = omega (
  arith,
  length-append (books_words version b) ((codes "scripts" ∷ []) ∷ flat_map books_submission_words subs),
  few_of_books version range,
  few_each version b subs (scripts_are_good (IsScriptOf version b) subs valid),
  scripts_counted subs,
  valid.few_scripts,
)

-- so have lines without fault, whatever they are
few_lines : {lines : List Words} → IsReached lines → length lines ≤ most_lines + most_script_lines
few_lines (AtStart e) = omega (arith, ap length e)
few_lines (InBooks version b range within e) = omega (arith, ap length e, few_of_books version range)
few_lines (Outside r) = omega (arith, ap length r.lines_are, few_so_far r.subs r.range r.valid)
few_lines (WithinScript r) = omega (
  arith,
  ap length r.lines_are,
  length-append (lines_so_far r.version r.books r.subs) (opened r.name r.parts r.stage),
  lines_of_open r.parts r.stage,
  lines_of_parts (parts_with r.parts r.stage),
  few_so_far r.subs r.range r.valid,
  r.script.few,
  r.script.few_alternatives,
)

-- a line that is there is not missing
not_missing : (before : List Words) (words : Words) → fault_of before words ≢ Some fault.End
not_missing [] words = other _ fault.Header _ (λ e. cc) (other _ fault.Number _ (λ e. cc) (other _ fault.Limit _ (λ e. cc) no_more))
not_missing (header ∷ lines) words = by (books_place_behind (header ∷ lines))
    (other _ fault.Word _ (λ e. cc) (other (is_late before words) fault.Order _ (λ e. cc)
    (other (not (are_numbers (drop 1 words))) fault.Number _ (λ e. cc) (other is_beyond_limits fault.Limit _ (λ e. cc)
    (other (is_low before words) fault.Order _ (λ e. cc) (other (lacks (codes "account") 1) fault.Account _ (λ e. cc)
    (other (lacks (codes "price") 2) fault.Price _ (λ e. cc)
    (other (takes_block words && nat_le (size_at before 3) (count_by takes_block before)) fault.Blocks _ (λ e. cc) no_more))))))))
    (λ region n m. other _ fault.Word _ (λ e. cc) (other _ fault.Number _ (λ e. cc) (other _ fault.Limit _ (λ e. cc) no_more)))
    (other _ fault.Word _ (λ e. cc) (other _ fault.Limit _ (λ e. cc) no_more))
  where
    before : List Words
    before = header ∷ lines

    is_beyond_limits : Bool
    is_beyond_limits = not (are_in_range (drop 1 words) (ranges_of (form_of (books_forms (version_at before) (size_at before 5)) words))) ||
        (begins (codes "call") words && nat_le (size_at before 7) (count_by (begins (codes "call")) before))

    lacks : List ℕ → ℕ → Bool
    lacks keyword place = begins (codes "position") words && not (is_given before keyword (word_value words place))

    by : (place : BooksPlace) → books_fault before words ≢ Some fault.End
        → ((region : Region) (n m : ℕ) → inside_fault (version_at before) region (size_at before 5) n m words ≢ Some fault.End)
        → outside_fault before words ≢ Some fault.End → place_fault place before words ≢ Some fault.End
    by AmongBooks books within between = books
    by OutsideScripts books within between = between
    by (Inside region n m) books within between = within region n m

-- lines without fault are few
few_faultless : (lines : List Words) → AreFaultless [] lines → length lines + 2 < 2 ^ 32
few_faultless lines f = omega (arith, few_lines (reach_all lines (AtStart refl) f))

pub told : (text left : List ℕ) (why : Fault) → (h : IsFaultyBehind [] text left why) → Told text left why (length h.more)
told = judged.told fault_of few_faultless not_missing

pub in_front : (text left : List ℕ) (why : Fault) → IsFaultyBehind [] text left why → (n number : ℕ) → n ≡ feeds text left
    → (why ≡ fault.End → number ≡ n + 1) → (why ≢ fault.End → number ≡ n) → IsFrontFault text number why
in_front = judged.in_front fault_of few_faultless not_missing

-- the text of an input has few line feeds
pub few_of_input : {text : List ℕ} {input : ClearingInput} → Spells text input → count_by (λ b. b == LINE_FEED) text + 1 < 2 ^ 32
few_of_input {text} {input} h = judged.few_of_text fault_of few_faultless not_missing (whole text (input, h))
