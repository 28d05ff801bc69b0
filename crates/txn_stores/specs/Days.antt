-- What all workers of a store did together.
use Rattle.std.specs.Prelude.{◌≡◌, ◌≢◌, ◌↔◌, ◌<◌, ◌≤◌, ℕ, List, map, length, take, All, AllPairs, Some, slice_get}
use Rattle.history_model.specs.declared.entry.Entry.{Entry}
use Rattle.history_model.specs.Histories.{replay}
use Rattle.history_model.specs.Legal.{IsIn}
use Rattle.history_model.specs.Traces.{IsLegalTrace}
use Rattle.word_table.specs.Closing.{ClosedView}
use Rattle.txn_commit.specs.declared.lists.Done.{Done}
use Rattle.txn_commit.specs.Lists.{IsEntryOf}
use Rattle.txn_commit.specs.Ordered.{spot_of, IsRebuilt}
use Rattle.books_report.specs.declared.stores.reply.StoreReply.{StoreReply}
use Rattle.script_reader.specs.Journal.{IsJournalOf}
use Rattle.books_report.specs.Stores.Output.{StoreOf, replies_of, state_after}
use Rattle.txn_stores.specs.Journals.{places_of_done}

-- a day of a store, over a table that is closed and whose words stand for its states: its items, in the order that is
-- rebuilt from their uses, are a journal with the replies of the interpreter, run down it from what the store begins with;
-- the closed records are their entries, one for each; down these each trace is legal, and before and after each item the
-- words stand for the state of the interpreter
pub record IsDay {O V X S : Type 0} (store : StoreOf O V X) (stands : S → List ℕ → X → Type 0) (closed : ClosedView S)
    (done : List (Done (StoreReply V))) : Type 0 where
  pub rebuilt : IsRebuilt spot_of done
  pub entries : List Entry
  pub as_many : length done ≡ length entries
  pub of_items : (k : ℕ) (item : Done (StoreReply V)) (e : Entry) → slice_get done k ≡ Some item → slice_get entries k ≡ Some e
      → IsEntryOf item e
  pub of_records : (e : Entry) → IsIn e entries ↔ IsIn e closed.records
  pub apart : AllPairs (λ x y. x.seat ≡ y.seat → x.call ≢ y.call) done
  pub legal : (k : ℕ) (e : Entry) → slice_get entries k ≡ Some e
      → IsLegalTrace e.trace (replay closed.base (take k entries))
  pub words : closed.words ≡ replay closed.base entries
  pub journal : IsJournalOf store.callers (places_of_done done)
  pub below : All (λ item. item.restarts < closed.seats) done
  pub replies : map (λ item. item.reply) done ≡ replies_of store store.begins (places_of_done done)
  pub stood : (k : ℕ) → k ≤ length done → stands closed.shape (replay closed.base (take k entries))
      (state_after store store.begins (places_of_done (take k done)))
  pub left : stands closed.shape closed.words (state_after store store.begins (places_of_done done))
