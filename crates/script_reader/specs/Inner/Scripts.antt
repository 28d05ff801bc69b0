-- The scripts that a text has, and the callers that they make.
use Rattle.std.specs.Prelude.{◌≡◌, ℕ, false, List, [], ◌∷◌, ◌++◌, codes}
use Rattle.std.specs.List.{flat_map}
use Rattle.books_model.specs.Books.{ClearingBooks}
use Rattle.script_reader.specs.declared.books.version.Version.{Version}
use Rattle.script_reader.specs.Text.{script_lines, end_line, finish_line}
use Rattle.script_reader.specs.Input.{Caller, ClearingInput, Submission, IsName, callers_of}
use Rattle.script_reader.specs.Inner.Gatherings.{add_submission, is_beyond_in}
use Rattle.script_reader.specs.Inner.OfVersion.{IsScriptOf, AreCallersOf}
use Rattle.script_reader.specs.Grammar.{Spells, submission_lines}

-- the text before begins with scripts that make the callers, and with the line `finish`, and goes on with the text
-- after
pub record IsReadOf (version : Version) (books : ClearingBooks) (callers : List Caller) (before after : List ℕ) : Type 0 where
  pub submissions : List Submission
  pub text : before ≡ flat_map submission_lines submissions ++ (finish_line ++ after)
  pub made : callers ≡ callers_of submissions
  pub valid : AreCallersOf version books callers

-- the text before begins with a text of the input, and goes on with the text after
pub record HasFront (input : ClearingInput) (before after : List ℕ) : Type 0 where
  pub front : List ℕ
  pub text : before ≡ front ++ after
  pub spelled : Spells front input

-- the line begins a script, for which and for whose caller there is room; the text before begins with its other
-- lines, and goes on with the text after; and more is the callers with the script
pub record IsAdded (version : Version) (books : ClearingBooks) (words : List (List ℕ)) (callers more : List Caller)
    (before after : List ℕ) : Type 0 where
  pub submission : Submission
  pub begins : words ≡ codes "script" ∷ submission.caller ∷ []
  pub named : IsName submission.caller
  pub room : is_beyond_in callers submission.caller ≡ false
  pub valid : IsScriptOf version books submission.script
  pub text : before ≡ script_lines submission.script ++ (end_line ++ after)
  pub made : more ≡ add_submission callers submission
