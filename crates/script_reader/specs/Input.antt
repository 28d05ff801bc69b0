-- An input: opening books, and callers with their scripts.
use Rattle.std.specs.Prelude.{List}
use Rattle.books_model.specs.declared.script.Part.{Part}
use Rattle.books_model.specs.Books.{ClearingBooks}
use Rattle.books_model.specs.Ranges.{AreInRange, IsScriptFor}
use Rattle.script_reader.specs.Gathered.{CallerOf, SubmissionOf, AreCallers}
pub use Rattle.script_reader.specs.Gathered.{is_name, IsName, add_name, first_seen, scripts_by, callers_of, count_scripts}

-- a caller with scripts on books
abbrev pub Caller : Type 0
Caller = CallerOf (List Part)

-- opening books, and the callers in the order in which they were first seen
pub record ClearingInput : Type 0 where
  pub books : ClearingBooks
  pub callers : List Caller

-- a script on books as it stands in a text, with the name of its caller
abbrev pub Submission : Type 0
Submission = SubmissionOf (List Part)

-- callers that the grammar can give, each with at least one script, and all their scripts for the books
abbrev pub AreCallersFor : ClearingBooks → List Caller → Type 0
AreCallersFor books = AreCallers (IsScriptFor books)

-- an input that the grammar can give
pub record IsInput (input : ClearingInput) : Type 0 where
  pub books : AreInRange input.books
  pub callers : AreCallersFor input.books input.callers
