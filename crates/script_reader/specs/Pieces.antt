-- Texts that are read in pieces: how they open, and lists of whole scripts.
use Rattle.std.specs.Prelude.{◌≡◌, ◌⊎◌, ℕ, List, [], ◌∷◌, ◌++◌, codes, All}
use Rattle.std.specs.List.{flat_map}
use Rattle.books_model.specs.Books.{ClearingBooks}
use Rattle.books_model.specs.Ranges.{IsScriptFor}
use Rattle.script_reader.specs.declared.books.version.Version.{Version}
use Rattle.script_reader.specs.declared.text.words.TheConstants.{LINE_FEED}
use Rattle.script_reader.specs.Text.{books_lines, scripts_line, finish_line}
use Rattle.script_reader.specs.Input.{Submission, IsName}
use Rattle.script_reader.specs.Grammar.{submission_lines}
use Rattle.script_reader.specs.Versions.{AreBooksWithin, IsScriptWithin}

-- the bytes are books of the version, the line `scripts`, the bytes of scripts, and the line `finish`
pub record Opens (bytes : List ℕ) (version : Version) (books : ClearingBooks) (scripts : List ℕ) : Type 0 where
  pub text : bytes ≡ books_lines version books ++ scripts_line ++ scripts ++ finish_line
  pub within : AreBooksWithin version books

-- a script that a text of the version can have for the books
pub record CanStand (version : Version) (books : ClearingBooks) (s : Submission) : Type 0 where
  pub named : IsName s.caller
  pub fits : IsScriptFor books s.script
  pub within : IsScriptWithin version s.script

-- the bytes are these scripts, one behind the other, as a text of the version can have them for the books
pub record AreScripts (version : Version) (books : ClearingBooks) (bytes : List ℕ) (submissions : List Submission) : Type 0 where
  pub text : bytes ≡ flat_map submission_lines submissions
  pub each : All (CanStand version books) submissions

-- the bytes after begin the line of a script, behind a line that the bytes before end; or there are none after
abbrev pub IsBetweenScripts : List ℕ → List ℕ → Type 0
IsBetweenScripts before after =
    (after ≡ [])
    ⊎ ((lines : List ℕ) × (rest : List ℕ) × (before ≡ lines ++ LINE_FEED ∷ []) × (after ≡ codes "script " ++ rest))
