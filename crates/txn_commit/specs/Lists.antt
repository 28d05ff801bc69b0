-- What lists of jobs come to that workers ran over one table.
use Rattle.std.specs.Prelude.{◌≡◌, ◌≢◌, ℕ, ◌<◌, ◌%◌, ◌==◌, Bool, true, List, length, map, take, All, AllPairs, Some, slice_get, sum_by}
use Rattle.std.specs.List.{filter, range_with_len}
use Rattle.history_model.specs.declared.entry.Entry.{Entry}
use Rattle.history_model.specs.declared.item.Item.{Item}
use Rattle.history_model.specs.Arrangements.{IsArrangement}
use Rattle.history_model.specs.Items.{replay_items}
use Rattle.history_model.specs.Legal.{IsIn}
use Rattle.history_model.specs.Traces.{after}
use Rattle.word_table.specs.Closing.{ClosedView, items_of_closed}
use Rattle.txn_commit.specs.declared.lists.Done.{Done}
use Rattle.txn_commit.specs.Uses.{ListsUses}

-- how many jobs the first n callers have together
abbrev pub jobs_of_first : (ℕ → ℕ) → ℕ → ℕ
jobs_of_first jobs n = sum_by jobs (range_with_len 0 n)

module _ {A : Type 0} where
  -- which of a caller's jobs were run, in the order of their items
  abbrev pub indexes_of : ℕ → List (Done A) → List ℕ
  indexes_of caller done = map (λ (ran : Done A). ran.index) (filter (λ (ran : Done A). ran.caller == caller) done)

  -- each item is a caller's, and each caller's jobs stand there once and in their order
  pub record AreOnceInOrder (callers : ℕ) (jobs : ℕ → ℕ) (done : List (Done A)) : Type 0 where
    pub of_callers : All (λ ran. ran.caller < callers) done
    pub each : (caller : ℕ) → caller < callers → indexes_of caller done ≡ range_with_len 0 (jobs caller)

  -- which of a seat's calls were made, in the order of their items
  abbrev pub calls_of : ℕ → List (Done A) → List ℕ
  calls_of seat done = map (λ (ran : Done A). ran.call) (filter (λ (ran : Done A). ran.seat == seat) done)

  -- the items of each seat are of its calls 1, 2, and so on, in this order
  abbrev pub AreCounted : List (Done A) → Type 0
  AreCounted done = (seat : ℕ) → calls_of seat done ≡ range_with_len 1 (length (calls_of seat done))

  -- each caller's jobs were run by the seat of its number modulo the workers
  abbrev pub AreDealt : ℕ → List (Done A) → Type 0
  AreDealt workers done = All (λ ran. ran.seat ≡ ran.caller % workers) done

  -- the entry is of the item's seat and call, has as many attempts that gave way as the item has restarts, and has the uses
  -- that the item lists by rising lock
  pub record IsEntryOf (ran : Done A) (entry : Entry) : Type 0 where
    pub seat_is : entry.who ≡ ran.seat
    pub call_is : entry.call ≡ ran.call
    pub restarts_are : length entry.abandoned ≡ ran.restarts
    pub uses_are : ListsUses entry.uses ran.uses.items

  -- the records are those of the items: as many, one for each item, an item for each, and no two items of one call
  pub record HaveRecords (records : List Entry) (done : List (Done A)) : Type 0 where
    pub as_many : length done ≡ length records
    pub each : (ran : Done A) → IsIn ran done → (entry : Entry) × IsIn entry records × IsEntryOf ran entry
    pub whole : (entry : Entry) → IsIn entry records → (ran : Done A) × IsIn ran done × IsEntryOf ran entry
    pub apart : AllPairs (λ x y. x.seat ≡ y.seat → x.call ≢ y.call) done

  -- in every arrangement, what stands before an item's entry leaves words of which the meaning of the item's job holds
  abbrev pub AreMeant : {S : Type 0} → (ℕ → ℕ → List ℕ → Bool → A → List ℕ → Type 0) → ClosedView S → List (Done A) → Type 0
  AreMeant means closed done =
      (order : List Item) → IsArrangement (items_of_closed closed) order
      → (p : ℕ) (x : Item) → slice_get order p ≡ Some x → x.entry ≡ true
      → (ran : Done A) → IsIn ran done → ran.seat ≡ x.who → ran.call ≡ x.call
      → means ran.caller ran.index (replay_items closed.base (take p order)) x.kept ran.reply
      (after x.trace (replay_items closed.base (take p order)))
