-- What the check of a text knows on its way.
use Rattle.std.specs.Prelude.{◌≡◌, ◌≢◌, ℕ, ◌+◌, ◌<◌, ◌==◌, if◌then◌else◌, List, [], ◌∷◌, ◌++◌, length, count_by, slice_index}
use Rattle.std.specs.List.{concat}
use Rattle.script_reader.specs.Gathered.{caller_at}
use Rattle.books_model.specs.Books.{ClearingBooks}
use Rattle.script_reader.specs.declared.text.words.TheConstants.{SPACE}
use Rattle.script_reader.specs.Input.{ClearingInput}
use Rattle.books_report.specs.declared.limits.TheConstants.{RESTARTS_BELOW}
use Rattle.books_report.specs.declared.check.Checked.{Checked}
use Rattle.books_report.specs.declared.check.Checked.TheVariants.{Agrees, Differs}
use Rattle.books_report.specs.Journals.{places_run, journal_line}
use Rattle.books_report.specs.Output.{Ran, books_after, IsOutput}
use Rattle.books_report.specs.Checking.{MayFollow, FollowInTurn, IsFirstWrongLine}
use Rattle.books_report.specs.Words.{reply_words}

-- the books and numbers of scripts are for the callers of the input
pub record IsFor (input : ClearingInput) (books : ClearingBooks) (done : List ℕ) : Type 0 where
  pub even : length done ≡ length input.callers
  pub instruments : books.instruments ≡ input.books.instruments

-- these scripts were run: they leave the books, and there are so many of each caller
pub record HasRun (input : ClearingInput) (scripts : List Ran) (books : ClearingBooks) (done : List ℕ) : Type 0 where
  pub in_turn : FollowInTurn input RESTARTS_BELOW [] scripts
  pub books_are : books ≡ books_after input input.books (places_run scripts)
  pub done_are : (c : ℕ) → c < length input.callers
      → slice_index done c ≡ count_by (λ p. p.caller == c) (places_run scripts)

-- the text begins with the line of a script that may follow; what is left stands behind it
pub record BeginsWithLine (input : ClearingInput) (scripts : List Ran) (text left : List ℕ)
    (books : ClearingBooks) (done : List ℕ) : Type 0 where
  pub ran : Ran
  pub may_follow : MayFollow input RESTARTS_BELOW scripts ran
  pub text_is : text ≡ journal_line reply_words (length scripts + 1) (caller_at input.callers ran.place.caller).name ran ++ left
  pub has_run : HasRun input (scripts ++ ran ∷ []) books done

-- the text begins with no such line
abbrev pub BeginsWithNone : ClearingInput → List Ran → List ℕ → Type 0
BeginsWithNone input scripts text = (ran : Ran) (left : List ℕ) → MayFollow input RESTARTS_BELOW scripts ran
    → text ≢ journal_line reply_words (length scripts + 1) (caller_at input.callers ran.place.caller).name ran ++ left

-- the first four words of a text, with a space behind each
abbrev pub four_words : List ℕ → List ℕ → List ℕ → List ℕ → List ℕ → List ℕ
four_words a b c d rest = a ++ SPACE ∷ (b ++ SPACE ∷ (c ++ SPACE ∷ (d ++ SPACE ∷ rest)))

-- the text does not begin with the first of these lines, or goes on behind the last
abbrev pub StopsBefore : List (List ℕ) → List ℕ → Type 0
StopsBefore [] text = text ≢ []
StopsBefore (line ∷ lines) text = (left : List ℕ) → text ≢ line ++ left

-- the text begins with so many of some lines, and stops there
pub record StopsAfter (lines : List (List ℕ)) (text : List ℕ) (count : ℕ) : Type 0 where
  pub done : List (List ℕ)
  pub rest : List (List ℕ)
  pub left : List ℕ
  pub lines_are : lines ≡ done ++ rest
  pub text_is : text ≡ concat done ++ left
  pub stops : StopsBefore rest left
  pub count_is : count ≡ length done

-- the bytes that two texts have in common, from the first
abbrev pub in_common : List ℕ → List ℕ → List ℕ
in_common [] text = []
in_common (b ∷ wanted) [] = []
in_common (b ∷ wanted) (c ∷ text) = if b == c then b ∷ in_common wanted text else []

-- what the check finds is so
abbrev pub IsFound : ClearingInput → List ℕ → Checked → Type 0
IsFound input text Agrees = IsOutput input RESTARTS_BELOW text
IsFound input text (Differs line) = IsFirstWrongLine input RESTARTS_BELOW text line
