-- The lines of a text, as their words.
use Rattle.std.specs.Prelude.{ℕ, List, [], ◌∷◌, ◌++◌, codes, map as map_list}
use Rattle.std.specs.List.{flat_map}
use Rattle.std.specs.FinMap as map
use Rattle.books_model.specs.declared.script.Op.{Op}
use Rattle.books_model.specs.declared.script.Part.{Part}
use Rattle.books_model.specs.declared.script.Part.TheVariants as part
use Rattle.books_model.specs.Books.{ClearingBooks}
use Rattle.script_reader.specs.declared.books.version.Version.{Version}
use Rattle.script_reader.specs.Text.{header_words, account_words, price_words, position_words, call_words, books_operation_words, part_words}
use Rattle.script_reader.specs.Input.{Submission}

-- the lines of books, as their words
abbrev pub books_words : Version → ClearingBooks → List (List (List ℕ))
books_words version books =
    header_words version books
    ∷ (map_list account_words (map.entries books.accounts)
    ++ (map_list price_words (map.entries books.prices)
    ++ (map_list position_words (map.entries books.positions)
    ++ map_list call_words books.calls)))

-- the lines of a script, as their words
abbrev pub books_submission_words : Submission → List (List (List ℕ))
books_submission_words s = (codes "script" ∷ s.caller ∷ []) ∷ (flat_map part_words s.script ++ (codes "end" ∷ []) ∷ [])

-- the lines of books, and of the scripts behind them so far
abbrev pub lines_so_far : Version → ClearingBooks → List Submission → List (List (List ℕ))
lines_so_far version books submissions = books_words version books ++ ((codes "scripts" ∷ []) ∷ flat_map books_submission_words submissions)

-- how far a script has come that has not ended: behind its parts, or in a branch of an alternative
pub data Open : Type 0 where
  BetweenParts : Open
  InFirst : List Op → Open
  InSecond : List Op → List Op → Open

-- the lines of the alternative that is open
abbrev pub open_words : Open → List (List (List ℕ))
open_words BetweenParts = []
open_words (InFirst first) = (codes "try" ∷ []) ∷ map_list books_operation_words first
open_words (InSecond first second) =
    (codes "try" ∷ []) ∷ (map_list books_operation_words first ++ ((codes "else" ∷ []) ∷ map_list books_operation_words second))

-- the parts of a script that has not ended, with the alternative that is open
abbrev pub parts_with : List Part → Open → List Part
parts_with parts BetweenParts = parts
parts_with parts (InFirst first) = parts ++ part.Either first [] ∷ []
parts_with parts (InSecond first second) = parts ++ part.Either first second ∷ []

-- the lines of a script that has not ended, behind the line that begins it
abbrev pub script_words : List Part → Open → List (List (List ℕ))
script_words parts stage = flat_map part_words parts ++ open_words stage

-- the lines of scripts so far, and those of a script that has not ended
abbrev pub lines_inside : Version → ClearingBooks → List Submission → List ℕ → List Part → Open → List (List (List ℕ))
lines_inside version books submissions name parts stage =
    lines_so_far version books submissions ++ ((codes "script" ∷ name ∷ []) ∷ script_words parts stage)
