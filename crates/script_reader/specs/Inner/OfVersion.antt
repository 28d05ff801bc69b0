-- Operations, scripts and callers that a text of a version can give for books.
use Rattle.std.specs.Prelude.{◌≤◌, List, length, sum_by, All}
use Rattle.books_model.specs.declared.limits.TheConstants.{MOST_OPERATIONS, MOST_ALTERNATIVES}
use Rattle.books_model.specs.declared.script.Op.{Op}
use Rattle.books_model.specs.declared.script.Part.{Part}
use Rattle.books_model.specs.Books.{ClearingBooks}
use Rattle.books_model.specs.Ranges.{IsOperationFor}
use Rattle.books_model.specs.Scripts.{operations_of, alternatives_in}
use Rattle.script_reader.specs.declared.books.version.Version.{Version}
use Rattle.script_reader.specs.Gathered.{AreCallers}
use Rattle.script_reader.specs.Input.{Caller}
use Rattle.script_reader.specs.Versions.{greatest_amount, amount_of}

-- the numbers of an operation are in their ranges for the books, and its amount in that of the version
abbrev pub IsOperationOf : Version → ClearingBooks → Op → Type 0
IsOperationOf version books o = IsOperationFor books o × (amount_of o ≤ greatest_amount version)

-- a script that a text of the version can give
pub record IsScriptOf (version : Version) (books : ClearingBooks) (script : List Part) : Type 0 where
  pub few : length (operations_of script) ≤ MOST_OPERATIONS
  pub few_alternatives : sum_by alternatives_in script ≤ MOST_ALTERNATIVES
  pub each : All (IsOperationOf version books) (operations_of script)

-- callers that it can give
abbrev pub AreCallersOf : Version → ClearingBooks → List Caller → Type 0
AreCallersOf version books = AreCallers (IsScriptOf version books)
