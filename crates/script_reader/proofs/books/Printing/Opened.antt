-- A script that has not ended, with one more line.
use Rattle.script_reader.proofs.Common.{◌≡◌, ℕ, ◌+◌, List, [], ◌∷◌, ◌++◌, codes, map, length, length-append, sum_by, arith, sum_by-append, Op, Part}
use Rattle.script_reader.proofs.Common.{operations_of, alternatives_in, behind_parts, ClearingBooks, books_operation_words, Submission, Words, Open}
use Rattle.script_reader.proofs.Common.{BetweenParts, InFirst, InSecond, parts_with, script_words, lines_inside, Version}
use Rattle.script_reader.proofs.Joined.{joined}
use Rattle.books_model.specs.declared.script.Part.TheVariants as part

-- with an operation more
abbrev pub parts_more : List Part → Open → Op → List Part
parts_more parts BetweenParts o = parts ++ part.One o ∷ []
parts_more parts (InFirst first) o = parts
parts_more parts (InSecond first second) o = parts

abbrev pub open_more : Open → Op → Open
open_more BetweenParts o = BetweenParts
open_more (InFirst first) o = InFirst (first ++ o ∷ [])
open_more (InSecond first second) o = InSecond first (second ++ o ∷ [])

pub words_more : (parts : List Part) (stage : Open) (o : Op)
    → script_words (parts_more parts stage o) (open_more stage o) ≡ script_words parts stage ++ books_operation_words o ∷ []
words_more parts BetweenParts o = simp joined
words_more parts (InFirst first) o = simp joined
words_more parts (InSecond first second) o = simp joined

-- how many operations there are with those of a branch
pub first_count : (parts : List Part) (ops : List Op) → length (operations_of (parts_with parts (InFirst ops))) ≡ length (operations_of parts) + length ops
first_count parts ops = simp (length-append, joined) (omega arith)

pub second_count : (parts : List Part) (first ops : List Op)
    → length (operations_of (parts_with parts (InSecond first ops))) ≡ length (operations_of parts) + length first + length ops
second_count parts first ops = simp (length-append, joined) (omega arith)

pub operations_more : (parts : List Part) (stage : Open) (o : Op)
    → operations_of (parts_with (parts_more parts stage o) (open_more stage o)) ≡ operations_of (parts_with parts stage) ++ o ∷ []
operations_more parts BetweenParts o = behind_parts parts (part.One o)
operations_more parts (InFirst first) o = simp joined
operations_more parts (InSecond first second) o = simp joined

pub alternatives_more : (parts : List Part) (stage : Open) (o : Op)
    → sum_by alternatives_in (parts_with (parts_more parts stage o) (open_more stage o)) ≡ sum_by alternatives_in (parts_with parts stage)
alternatives_more parts BetweenParts o = simp sum_by-append (omega arith)
alternatives_more parts (InFirst first) o = simp sum_by-append (omega arith)
alternatives_more parts (InSecond first second) o = simp sum_by-append (omega arith)

-- with the line that begins an alternative
pub words_try : (parts : List Part) → script_words parts (InFirst []) ≡ script_words parts BetweenParts ++ (codes "try" ∷ []) ∷ []
words_try parts = simp joined

pub operations_try : (parts : List Part) → operations_of (parts_with parts (InFirst [])) ≡ operations_of parts
operations_try parts = simp joined

pub alternatives_try : (parts : List Part) → sum_by alternatives_in (parts_with parts (InFirst [])) ≡ sum_by alternatives_in parts + 1
alternatives_try parts = simp sum_by-append (omega arith)

-- with the line between its branches
pub words_else : (parts : List Part) (first : List Op) → script_words parts (InSecond first []) ≡ script_words parts (InFirst first) ++ (codes "else" ∷ []) ∷ []
words_else parts first = simp joined

-- and with the line that ends it
pub words_done : (parts : List Part) (first second : List Op)
    → script_words (parts ++ part.Either first second ∷ []) BetweenParts ≡ script_words parts (InSecond first second) ++ (codes "done" ∷ []) ∷ []
words_done parts first second = simp joined

-- all lines of the text, with one more
pub inside_more : (version : Version) (b : ClearingBooks) (subs : List Submission) (name : List ℕ) (parts others : List Part) (stage other : Open)
    (more : List Words)
    → script_words others other ≡ script_words parts stage ++ more
    → lines_inside version b subs name others other ≡ lines_inside version b subs name parts stage ++ more
inside_more version b subs name parts others stage other more is = simp (is, joined)

-- with the rest of its branch
pub rest_of_branch : (parts : List Part) (first second : List Op)
    → (script_words parts (InFirst first) ≡ script_words parts (InFirst []) ++ map books_operation_words first)
    × (script_words parts (InSecond first second) ≡ script_words parts (InSecond first []) ++ map books_operation_words second)
rest_of_branch parts first second = (simp joined, simp joined)
