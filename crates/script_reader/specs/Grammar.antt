-- The grammar of inputs, as the text that an input has. Each number and each space has one spelling, so a text is
-- that of one input at most.
use Rattle.std.specs.Prelude.{◌≡◌, ℕ, List, [], ◌∷◌, ◌++◌, codes}
use Rattle.std.specs.List.{flat_map}
use Rattle.books_model.specs.Books.{ClearingBooks}
use Rattle.script_reader.specs.declared.books.version.Version.{Version}
use Rattle.script_reader.specs.Text.{line, books_lines, script_lines, scripts_line, end_line, finish_line}
use Rattle.script_reader.specs.Input.{ClearingInput, Submission, IsInput, callers_of}
use Rattle.script_reader.specs.Versions.{IsInputWithin}

-- the line `script CALLER`, the operations and alternatives, and the line `end`
abbrev pub submission_lines : Submission → List ℕ
submission_lines s = line (codes "script" ∷ s.caller ∷ []) ++ script_lines s.script ++ end_line

-- the text of books and of scripts in the order in which they are given
abbrev pub input_text : Version → ClearingBooks → List Submission → List ℕ
input_text version books submissions = books_lines version books ++ scripts_line ++ flat_map submission_lines submissions ++ finish_line

-- The bytes are a text of the input, whose callers gave their scripts in some order. The text is of a version, in the
-- ranges of which its numbers are. The input itself is of none.
pub record Spells (bytes : List ℕ) (input : ClearingInput) : Type 0 where
  pub version : Version
  pub submissions : List Submission
  pub text : bytes ≡ input_text version input.books submissions
  pub callers : input.callers ≡ callers_of submissions
  pub valid : IsInput input
  pub within : IsInputWithin version input

-- some input has these bytes as its text
abbrev pub IsValidInput : List ℕ → Type 0
IsValidInput bytes = (input : ClearingInput) × Spells bytes input

-- the bytes are the text of an input and, directly behind it, another text
pub record AreTwoTexts (bytes : List ℕ) (input : ClearingInput) (text : List ℕ) : Type 0 where
  pub front : List ℕ
  pub spelled : Spells front input
  pub bytes_are : bytes ≡ front ++ text

-- the bytes begin with the text of an input
pub record BeginWithInput (bytes : List ℕ) : Type 0 where
  pub input : ClearingInput
  pub text : List ℕ
  pub two : AreTwoTexts bytes input text
