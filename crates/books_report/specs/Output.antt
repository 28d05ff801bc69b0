-- The output: a journal of the scripts in the order in which they were run, and the closing books.
use Rattle.std.specs.Prelude.{◌≡◌, ℕ, ◌<◌, List, [], ◌∷◌, ◌++◌, map, All, codes}
use Rattle.script_reader.specs.Gathered.{script_at}
use Rattle.books_model.specs.declared.reply.Reply.{Reply}
use Rattle.books_model.specs.Books.{ClearingBooks}
use Rattle.books_model.specs.Interpreter.{outcome_of}
use Rattle.script_reader.specs.declared.books.version.Version.TheVariants.{Two}
use Rattle.script_reader.specs.Text.{line, books_lines, finish_line}
use Rattle.script_reader.specs.Input.{ClearingInput}
use Rattle.script_reader.specs.Journal.{Place, IsJournal}
use Rattle.books_report.specs.Words.{reply_words}
use Rattle.books_report.specs.Journals.{RanOf, journal_lines, places_run}

-- a script that was run: its place, how often it was restarted, and its reply
abbrev pub Ran : Type 0
Ran = RanOf Reply

-- the whole text of a journal and of closing books, which are printed as those of a text of version 2
abbrev pub text_of : ClearingInput → List Ran → ClearingBooks → List ℕ
text_of input scripts closing =
    line (codes "journal" ∷ []) ++ journal_lines reply_words input.callers 1 scripts ++ books_lines Two closing ++ finish_line

-- what the sequential interpreter replies to the script at a place, run on these books
abbrev pub reply_to : ClearingInput → ClearingBooks → Place → Reply
reply_to input books place = (outcome_of (script_at input.callers place.caller place.index) books).0

-- the books that it leaves
abbrev pub books_left : ClearingInput → ClearingBooks → Place → ClearingBooks
books_left input books place = (outcome_of (script_at input.callers place.caller place.index) books).1

-- what it replies to the scripts at these places, run one after the other from these books
abbrev pub replies_of : ClearingInput → ClearingBooks → List Place → List Reply
replies_of input books [] = []
replies_of input books (place ∷ places) =
    reply_to input books place ∷ replies_of input (books_left input books place) places

-- the books that they leave
abbrev pub books_after : ClearingInput → ClearingBooks → List Place → ClearingBooks
books_after input books [] = books
books_after input books (place ∷ places) = books_after input (books_left input books place) places

-- the text for scripts that were run in this order: their journal, and the books that they leave
abbrev pub output_of : ClearingInput → List Ran → List ℕ
output_of input scripts = text_of input scripts (books_after input input.books (places_run scripts))

-- the text is an output of the input: the journal of its scripts, run in some order in which each stands once and each
-- caller's in rising index, with each number of restarts below the limit and each reply that of the interpreter, run
-- down the order from the opening books; and then the books that it leaves
pub record IsOutput (input : ClearingInput) (limit : ℕ) (text : List ℕ) : Type 0 where
  pub scripts : List Ran
  pub journal : IsJournal input (places_run scripts)
  pub below : All (λ ran. ran.restarts < limit) scripts
  pub replies : map (λ ran. ran.reply) scripts ≡ replies_of input input.books (places_run scripts)
  pub text_is : text ≡ output_of input scripts
