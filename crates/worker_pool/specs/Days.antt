-- What all workers of a day did together.
use Rattle.std.specs.Prelude.{◌≡◌, ◌↔◌, ◌≤◌, ◌<◌, ℕ, List, map, length, take, All, Some, slice_get}
use Rattle.history_model.specs.declared.entry.Entry.{Entry}
use Rattle.history_model.specs.Histories.{replay}
use Rattle.history_model.specs.Legal.{IsIn}
use Rattle.history_model.specs.Traces.{IsLegalTrace}
use Rattle.word_table.specs.Closing.{ClosedView}
use Rattle.word_table.specs.Copies.{fresh_pass, PassView}
use Rattle.word_table.specs.Desks.{DeskView}
use Rattle.script_reader.specs.Input.{ClearingInput}
use Rattle.script_reader.specs.Journal.{Place, IsJournal}
use Rattle.books_report.specs.Output.{replies_of, books_after}
use Rattle.txn_books.specs.declared.shape.BooksShape.{BooksShape}
use Rattle.txn_books.specs.Standing.{Stands}
use Rattle.txn_commit.specs.declared.lists.Done as lists
use Rattle.txn_commit.specs.Lists.{IsEntryOf}
use Rattle.txn_commit.specs.Ordered.{spot_of, IsRebuilt}
use Rattle.books_model.specs.declared.reply.Reply.{Reply}

-- a script that was run
abbrev pub Done : Type 0
Done = lists.Done Reply

-- the place of the script that an item is about
abbrev pub place_of_item : Done → Place
place_of_item item = record { caller = item.caller; index = item.index }

-- the places of items
abbrev pub places_of_items : List Done → List Place
places_of_items done = map place_of_item done

-- the entries are those of the items, one beside the other
pub record AreEntriesOf (done : List Done) (entries : List Entry) : Type 0 where
  pub as_many : length done ≡ length entries
  pub each : (k : ℕ) (item : Done) (entry : Entry) → slice_get done k ≡ Some item → slice_get entries k ≡ Some entry → IsEntryOf item entry

-- each caller was run whole by one worker: any two items of one caller are of one seat
abbrev pub AreCallersWhole : List Done → Type 0
AreCallersWhole done = (j k : ℕ) (x y : Done) → slice_get done j ≡ Some x → slice_get done k ≡ Some y → x.caller ≡ y.caller → x.seat ≡ y.seat

-- a day of the input, over a table that is closed: its items, in the order that is rebuilt from their uses, are a journal
-- with the replies of the interpreter; the closed records are their entries; down these each trace is legal, and before
-- and after each item the words stand for the books of the interpreter
pub record IsDay (input : ClearingInput) (closed : ClosedView BooksShape) (done : List Done) : Type 0 where
  pub rebuilt : IsRebuilt spot_of done
  pub entries : List Entry
  pub of_items : AreEntriesOf done entries
  pub of_records : (e : Entry) → IsIn e entries ↔ IsIn e closed.records
  pub as_many : length done ≡ length closed.records
  pub distinct : (j k : ℕ) (x y : Done) → slice_get done j ≡ Some x → slice_get done k ≡ Some y → x.seat ≡ y.seat → x.call ≡ y.call → j ≡ k
  pub legal : (k : ℕ) (e : Entry) → slice_get entries k ≡ Some e → IsLegalTrace e.trace (replay closed.base (take k entries))
  pub words : closed.words ≡ replay closed.base entries
  pub journal : IsJournal input (places_of_items done)
  pub below : All (λ item. item.restarts < closed.seats) done
  pub replies : map (λ item. item.reply) done ≡ replies_of input input.books (places_of_items done)
  pub stands : (k : ℕ) → k ≤ length done
      → Stands closed.shape (replay closed.base (take k entries)) (books_after input input.books (places_of_items (take k done)))
  pub left : Stands closed.shape closed.words (books_after input input.books (places_of_items done))
