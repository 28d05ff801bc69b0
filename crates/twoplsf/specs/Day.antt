-- What a day of some workers is, and what is printed of it.
use Rattle.std.specs.Prelude.{◌≡◌, ℕ, List, map}
use Rattle.history_model.specs.Fitting.{IsGood}
use Rattle.script_reader.specs.Input.{ClearingInput}
use Rattle.books_model.specs.Books.{ClearingBooks}
use Rattle.books_report.specs.Output.{Ran, books_after}
use Rattle.txn_books.specs.Layout.{words_of}
use Rattle.txn_books.specs.Standing.{Stands, IsGoodFor}
use Rattle.word_table.specs.Closing.{AreRecords, IsCoherent, IsLegalInEachOrder}
use Rattle.worker_pool.specs.declared.done.DayEnd.{DayEnd}
use Rattle.worker_pool.specs.Days.{place_of_item, AreCallersWhole, Done, IsDay}
use Rattle.worker_pool.specs.Days as days

-- what the journal says of an item
abbrev pub ran_of_item : Done → Ran
ran_of_item item = record { place = place_of_item item; restarts = item.restarts; reply = item.reply }

-- what the journal says of all items, in their order
abbrev pub journal_of : DayEnd → List Ran
journal_of day = map ran_of_item day.done.items

-- the books that the interpreter leaves after the items, in their order
abbrev pub closing_books : ClearingInput → DayEnd → ClearingBooks
closing_books input day = books_after input input.books (days.places_of_items day.done.items)

-- a day of the input by so many workers: a table with a seat for each, whose words stood for the opening books; all that
-- was committed on it, with the attempts that gave way, has an arrangement, and each arrangement is a legal history, whose
-- replay its words are at the end; each caller was run whole by one worker
pub record IsDayOf (input : ClearingInput) (workers : ℕ) (day : DayEnd) : Type 0 where
  pub seats : day.closed.seats ≡ workers
  pub opening : Stands day.closed.shape day.closed.base input.books
  pub coherent : IsCoherent (IsGood (words_of day.closed.shape) (IsGoodFor day.closed.shape)) day.closed
  pub legal : IsLegalInEachOrder (IsGood (words_of day.closed.shape) (IsGoodFor day.closed.shape)) day.closed
  pub records : AreRecords day.closed
  pub is_day : IsDay input day.closed day.done.items
  pub whole : AreCallersWhole day.done.items
