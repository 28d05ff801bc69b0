-- The scripts of a text of a list language, while they are read.
use Rattle.std.specs.Prelude.{◌≡◌, ℕ, false, List, [], ◌∷◌, ◌++◌, codes, map}
use Rattle.std.specs.List.{flat_map}
use Rattle.script_reader.specs.Text.{line, end_line, finish_line}
use Rattle.script_reader.specs.Input.{IsName}
use Rattle.script_reader.specs.Forms.{Words}
use Rattle.script_reader.specs.Gathered.{CallerOf, SubmissionOf, AreCallers, callers_of}
use Rattle.script_reader.specs.Inner.Gatherings.{add_submission, is_beyond_in}
use Rattle.script_reader.specs.ListLanguage.{ListLanguage, IsScriptIn, IsTextOf, operation_words, submission_words, lines_of}

module _ {O S : Type 0} (g : ListLanguage O S) where
  -- the lines of scripts so far, and those of a script that has not ended
  abbrev pub lines_within : List ℕ → List (SubmissionOf S) → List ℕ → List O → List Words
  lines_within sizes submissions name ops =
      lines_of g sizes submissions ++ ((codes "script" ∷ name ∷ []) ∷ map (operation_words g) ops)

  -- the text of the operations of a script
  abbrev pub operations_text : List O → List ℕ
  operations_text ops = flat_map line (map (operation_words g) ops)

  -- the text before begins with scripts that make the callers, and with the line `finish`, and goes on with the text
  -- after
  pub record AreReadOf (sizes : List ℕ) (callers : List (CallerOf S)) (before after : List ℕ) : Type 0 where
    pub submissions : List (SubmissionOf S)
    pub text : before ≡ flat_map line (flat_map (submission_words g) submissions) ++ (finish_line ++ after)
    pub made : callers ≡ callers_of submissions
    pub valid : AreCallers (IsScriptIn g sizes) callers

  -- the text before begins with a text of the language, and goes on with the text after
  pub record HasTextInFront (sizes : List ℕ) (callers : List (CallerOf S)) (before after : List ℕ) : Type 0 where
    pub front : List ℕ
    pub text : before ≡ front ++ after
    pub spelled : IsTextOf g front sizes callers

  -- the line begins a script, for which and for whose caller there is room; the text before begins with its other
  -- lines, and goes on with the text after; and more is the callers with the script
  pub record IsGathered (sizes : List ℕ) (words : Words) (callers more : List (CallerOf S)) (before after : List ℕ) : Type 0 where
    pub submission : SubmissionOf S
    pub begins : words ≡ codes "script" ∷ submission.caller ∷ []
    pub named : IsName submission.caller
    pub room : is_beyond_in callers submission.caller ≡ false
    pub valid : IsScriptIn g sizes submission.script
    pub text : before ≡ operations_text (g.operations submission.script) ++ (end_line ++ after)
    pub made : more ≡ add_submission callers submission
