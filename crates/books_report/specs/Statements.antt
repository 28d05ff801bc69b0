-- What the laws of outputs say.
use Rattle.std.specs.Prelude.{◌≡◌, ◌⊎◌, ℕ, List, ◌++◌}
use Rattle.std.specs.List.{flat_map}
use Rattle.script_reader.specs.declared.books.version.Version.TheVariants.{Two}
use Rattle.script_reader.specs.Text.{books_lines, scripts_line, finish_line}
use Rattle.script_reader.specs.Input.{ClearingInput, Submission, AreCallersFor, IsInput, callers_of}
use Rattle.script_reader.specs.Grammar.{Spells, submission_lines}
use Rattle.script_reader.specs.Journal.{Place, IsJournal}
use Rattle.books_report.specs.Output.{books_after, IsOutput}
use Rattle.books_report.specs.Checking.{IsFirstWrongLine}

-- The books that the interpreter leaves at the end of a journal open a new input: their lines, and any scripts of
-- callers that are for the opening books, are the text of an input that opens with them. It is a text of version 2,
-- whatever the version of the text was that the journal's input was read from.
abbrev pub ClosingBooksOpen : Type 0
ClosingBooksOpen = (input : ClearingInput) (order : List Place) (submissions : List Submission)
    → IsInput input → IsJournal input order → AreCallersFor input.books (callers_of submissions)
    → Spells (books_lines Two (books_after input input.books order) ++ scripts_line ++ flat_map submission_lines submissions
    ++ finish_line)
    (record { books = books_after input input.books order; callers = callers_of submissions })

-- the text has a first wrong line
abbrev pub HasWrongLine : ClearingInput → ℕ → List ℕ → Type 0
HasWrongLine input limit text = (number : ℕ) × IsFirstWrongLine input limit text number

-- a text that is an output has no wrong line, and one that has none is an output
pub record OutputOrWrong : Type 0 where
  pub either : (input : ClearingInput) (limit : ℕ) (text : List ℕ) → IsInput input
      → IsOutput input limit text ⊎ HasWrongLine input limit text
  pub not_both : (input : ClearingInput) (limit : ℕ) (text : List ℕ) → IsInput input → IsOutput input limit text
      → ¬ HasWrongLine input limit text

-- a text has one first wrong line at most
abbrev pub OneWrongLine : Type 0
OneWrongLine = (input : ClearingInput) (limit : ℕ) (text : List ℕ) (number other : ℕ) → IsInput input
    → IsFirstWrongLine input limit text number → IsFirstWrongLine input limit text other → number ≡ other
