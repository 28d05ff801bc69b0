-- The text of a day is an output.
use Rattle.twoplsf.proofs.Common.{length-map, ◌≡◌, ℕ, ◌<◌, List, [], ◌∷◌, ◌++◌, All, map, codes, refl, sym, ap, ◌∙◌, subst, Reply, ClearingBooks, ClearingInput}
use Rattle.twoplsf.proofs.Common.{IsPlace, Line, journal_lines, IsOutput, scripts_of, line_of_done, Done, DayEnd, ran_of_item, closing_books, IsDayOf}
use Rattle.twoplsf.proofs.Common.{reply_words}
use Rattle.script_reader.proofs.Common.{line, books_lines, finish_line}
use Rattle.input_maker.proofs.Common.{IsJournal}
use Rattle.books_report.proofs.Common.{places_run, Ran, books_after}
use Rattle.std.proofs.lemmas.List.{get_or-map}
use Rattle.std.proofs.lemmas.List.Elements.{All-map}
use Rattle.script_reader.specs.declared.books.version.Version.TheVariants.{Two}
use Rattle.books_report.specs.Output.{replies_of, text_of, output_of}
use Rattle.twoplsf.specs.Day.{journal_of}
use Rattle.books_report.specs.Lines as lines
use Rattle.worker_pool.specs.Days as days

-- the places of a journal are those of its items
places_same : (done : List Done) → places_run (map ran_of_item done) ≡ days.places_of_items done
places_same [] = refl
places_same (item ∷ done) = ap (λ places. days.place_of_item item ∷ places) (places_same done)

-- and so are its replies
replies_same : (done : List Done) → map (λ (ran : Ran). ran.reply) (map ran_of_item done) ≡ map (λ (item : Done). item.reply) done
replies_same [] = refl
replies_same (item ∷ done) = ap (λ replies. item.reply ∷ replies) (replies_same done)

-- the lines of items, each with its reply beside it
pub beside : (done : List Done) → scripts_of (map line_of_done done) (map (λ (item : Done). item.reply) done) ≡ map ran_of_item done
beside [] = refl
beside (item ∷ done) = ap (λ rans. ran_of_item item ∷ rans) (beside done)

-- the lines of items are of scripts of the input
pub places_of_lines : (input : ClearingInput) (done : List Done) → All (λ (item : Done). IsPlace input (days.place_of_item item)) done
    → All (λ (l : Line). IsPlace input (lines.place_of_line l)) (map line_of_done done)
places_of_lines input done each = All-map (λ (l : Line). IsPlace input (lines.place_of_line l)) line_of_done done each

module _ (input : ClearingInput) (workers : ℕ) (day : DayEnd) (is : IsDayOf input workers day) where
  -- each item is of a script of the input
  pub items_places : All (λ (item : Done). IsPlace input (days.place_of_item item)) day.done.items
  items_places = All-from_map day.done.items is.is_day.journal.only
    where
      All-from_map : (done : List Done) → All (IsPlace input) (days.places_of_items done) → All (λ (item : Done). IsPlace input (days.place_of_item item)) done
      All-from_map done all k d lt = subst (IsPlace input) (get_or-map days.place_of_item done k d (days.place_of_item d) lt)
          (all k (days.place_of_item d) (subst (λ n. k < n) (sym (length-map done days.place_of_item)) lt))

  -- and so is each line
  pub lines_places : All (λ (l : Line). IsPlace input (lines.place_of_line l)) (map line_of_done day.done.items)
  lines_places = places_of_lines input day.done.items items_places

  -- closing books are those that the interpreter leaves down the journal
  closing_is : (closing : ClearingBooks) → closing ≡ closing_books input day → closing ≡ books_after input input.books (places_run (journal_of day))
  closing_is closing closed = closed ∙ ap (books_after input input.books) (sym (places_same day.done.items))

  -- the books that it left close the output
  pub text_is : (text : List ℕ) (lines : List Line) (replies : List Reply) (closing : ClearingBooks)
      → lines ≡ map line_of_done day.done.items → replies ≡ map (λ (item : Done). item.reply) day.done.items → closing ≡ closing_books input day
      → text ≡ text_of input (scripts_of lines replies) closing → text ≡ output_of input (journal_of day)
  text_is text lines replies closing lines_are replies_are closed told =
      let scripts : scripts_of lines replies ≡ journal_of day = (λ i. scripts_of (lines_are i) (replies_are i)) ∙ beside day.done.items in
      told ∙ (λ i. text_of input (scripts i) (closing_is closing closed i))

  -- and so they do of lines that were written behind the first one
  pub joined_is : (text head journal : List ℕ) (closing : ClearingBooks) → closing ≡ closing_books input day → head ≡ line (codes "journal" ∷ [])
      → journal ≡ head ++ journal_lines reply_words input.callers 1 (journal_of day) → text ≡ journal ++ books_lines Two closing ++ finish_line
      → text ≡ output_of input (journal_of day)
  joined_is text head journal closing closed begun written told =
      told ∙ ap (λ t. t ++ books_lines Two closing ++ finish_line) (written ∙ ap (λ t. t ++ journal_lines reply_words input.callers 1 (journal_of day)) begun)
      ∙ ap (text_of input (journal_of day)) (closing_is closing closed)

  -- the text for the items of a day is an output, with each number of restarts below that of the workers
  pub day_output : (text : List ℕ) → text ≡ output_of input (journal_of day) → IsOutput input workers text
  day_output text told =
      let done = day.done.items in
      record {
        scripts = journal_of day;
        journal = subst (IsJournal input) (sym (places_same done)) is.is_day.journal;
        below = All-map (λ (ran : Ran). ran.restarts < workers) ran_of_item done
            (subst (λ n. All (λ (item : Done). item.restarts < n) done) is.seats is.is_day.below);
        replies = replies_same done ∙ is.is_day.replies ∙ ap (replies_of input input.books) (sym (places_same done));
        text_is = told;
      }
