-- The first line of a text that is wrong, if the text should be an output of an input. Lines are numbered from 1,
-- and each is taken with its line feed.
use Rattle.std.specs.Prelude.{◌≡◌, ◌≢◌, ℕ, ◌+◌, ◌<◌, ◌==◌, if◌then◌else◌, List, [], ◌∷◌, ◌++◌, map as map_list, length, count_by, codes}
use Rattle.std.specs.List.{concat}
use Rattle.std.specs.FinMap as map
use Rattle.script_reader.specs.Gathered.{caller_at}
use Rattle.books_model.specs.Books.{ClearingBooks}
use Rattle.script_reader.specs.declared.books.version.Version.TheVariants.{Two}
use Rattle.script_reader.specs.Text.{line, header_line, account_line, price_line, position_line, call_line, finish_line}
use Rattle.script_reader.specs.Input.{ClearingInput, count_scripts}
use Rattle.script_reader.specs.Journal.{Place, IsPlace}
use Rattle.books_report.specs.Journals.{places_run, journal_line}
use Rattle.books_report.specs.Output.{Ran, reply_to, books_after}
use Rattle.books_report.specs.Words.{reply_words}

-- the script at a place can come next, behind those at other places: its caller has it left, and none of its own
-- before it
pub record IsNext (input : ClearingInput) (before : List Place) (place : Place) : Type 0 where
  pub left : IsPlace input place
  pub next : place.index ≡ count_by (λ p. p.caller == place.caller) before

-- what a journal may say of one script more, behind those that were run: it is the next of a caller, its restarts are
-- below the limit, and its reply is that of the interpreter on the books so far
pub record MayFollow (input : ClearingInput) (limit : ℕ) (before : List Ran) (ran : Ran) : Type 0 where
  pub next : IsNext input (places_run before) ran.place
  pub below : ran.restarts < limit
  pub reply : ran.reply ≡ reply_to input (books_after input input.books (places_run before)) ran.place

-- each of some scripts may follow those before them and those of its list ahead of it
abbrev pub FollowInTurn : ClearingInput → ℕ → List Ran → List Ran → Type 0
FollowInTurn input limit before [] = Unit {0}
FollowInTurn input limit before (ran ∷ scripts) =
    MayFollow input limit before ran × FollowInTurn input limit (before ++ ran ∷ []) scripts

-- a journal's line for each script, the first of which has this serial number
abbrev pub journal_as_lines : ClearingInput → ℕ → List Ran → List (List ℕ)
journal_as_lines input serial [] = []
journal_as_lines input serial (ran ∷ scripts) =
    journal_line reply_words serial (caller_at input.callers ran.place.caller).name ran ∷ journal_as_lines input (serial + 1) scripts

-- the lines of closing books, and the last line
abbrev pub closing_lines : ClearingBooks → List (List ℕ)
closing_lines books =
    header_line Two books
    ∷ (map_list account_line (map.entries books.accounts)
    ++ (map_list price_line (map.entries books.prices)
    ++ (map_list position_line (map.entries books.positions)
    ++ (map_list call_line books.calls
    ++ finish_line ∷ []))))

-- the lines behind those of the journal: none, as long as a script is left
abbrev pub lines_behind : ClearingInput → List Ran → List (List ℕ)
lines_behind input scripts =
    if length scripts == count_scripts input.callers then closing_lines (books_after input input.books (places_run scripts))
    else []

-- the lines of an output up to where these scripts, in their order, lead
abbrev pub output_lines : ClearingInput → List Ran → List (List ℕ)
output_lines input scripts = line (codes "journal" ∷ []) ∷ (journal_as_lines input 1 scripts ++ lines_behind input scripts)

-- an output can begin with these lines: `journal`, and then a line of a script that may come next, as long as one is
-- left, and then those of the books reached and `finish`
pub record CanBegin (input : ClearingInput) (limit : ℕ) (lines : List (List ℕ)) : Type 0 where
  pub scripts : List Ran
  pub in_turn : FollowInTurn input limit [] scripts
  pub more : List (List ℕ)
  pub lines_are : output_lines input scripts ≡ lines ++ more

-- these lines are all of an output
pub record AreAll (input : ClearingInput) (limit : ℕ) (lines : List (List ℕ)) : Type 0 where
  pub scripts : List Ran
  pub in_turn : FollowInTurn input limit [] scripts
  pub run : length scripts ≡ count_scripts input.callers
  pub lines_are : output_lines input scripts ≡ lines

-- The first wrong line of a text. An output can begin with the lines before it, and what is left begins with no line
-- that can come next; and if they are all of an output, something is left. So a line that is missing is wrong, one
-- without its line feed is, and what stands behind the last line is.
pub record IsFirstWrongLine (input : ClearingInput) (limit : ℕ) (text : List ℕ) (number : ℕ) : Type 0 where
  pub before : List (List ℕ)
  pub left : List ℕ
  pub text_is : text ≡ concat before ++ left
  pub right : CanBegin input limit before
  pub wrong : (next after : List ℕ) → CanBegin input limit (before ++ next ∷ []) → left ≢ next ++ after
  pub unfinished : AreAll input limit before → left ≢ []
  pub number_is : number ≡ length before + 1
