-- A worker before its thread begins, and after it has ended; and what all passes ran.
use Rattle.std.specs.Prelude.{◌≡◌, ℕ, ◌*◌, ◌<◌, ◌≤◌, List, [], length, get_or, map, sum_by, All}
use Rattle.std.specs.List.{range_with_len}
use Rattle.crossbeam_utils.specs.declared.cache_padded.CachePadded.{CachePadded}
use Rattle.crossbeam_utils.specs.Padded.{padded_value}
use Rattle.history_model.specs.Views.{number}
use Rattle.word_table.specs.Desks.{DeskView}
use Rattle.word_table.specs.Copies.{PassView}
use Rattle.script_reader.specs.Input.{ClearingInput, IsInput}
use Rattle.script_reader.specs.declared.limits.TheConstants.{MOST_CALLERS, MOST_SCRIPTS}
use Rattle.txn_books.specs.declared.shape.BooksShape.{BooksShape}
use Rattle.txn_books.specs.Layout.{shape_of}
use Rattle.worker_pool.specs.declared.worker.Share.{Share}
use Rattle.worker_pool.specs.declared.worker.Worker.{Worker}
use Rattle.worker_pool.specs.Counting.{once_below}
use Rattle.worker_pool.specs.Inner.Makers.{HasMade, RanScripts, RunsEach}
use Rattle.worker_pool.specs.Inner.Queues.{dealt_to, had, Stealers, IsQueueOf, HadNone}

-- the number of a share's seat
abbrev pub seat_of : Share → ℕ
seat_of share = number share.pass.view

-- the worker that stands apart from others
abbrev pub worker_of : CachePadded Worker → Worker
worker_of apart = padded_value apart

-- what all workers share fits together: the table is for books of the input's sizes
pub record IsTableFor (desk : DeskView BooksShape) (shape : BooksShape) (input : ClearingInput) : Type 0 where
  pub shape_is : desk.shape ≡ shape
  pub sizes : shape ≡ shape_of input.books
  pub valid : IsInput input

-- a worker at these deques that did nothing yet
pub record IsSeated (stealers : Stealers) (worker : Worker) : Type 0 where
  pub queue : IsQueueOf stealers worker.queue.seat worker.queue
  pub unused : HadNone worker.queue
  pub nothing_done : worker.done.items ≡ []

-- a worker that may begin
pub record MayBegin (stealers : Stealers) (input : ClearingInput) (shape : BooksShape) (worker : Worker) : Type 0 where
  pub seated : IsSeated stealers worker
  pub sizes : shape ≡ shape_of input.books
  pub valid : IsInput input

-- a worker and the pass of this number: it took callers and ran all scripts of each
pub record HasDoneItsPart (stealers : Stealers) (desk : DeskView BooksShape) (input : ClearingInput) (k : ℕ)
    (worker : Worker) (pass : PassView) : Type 0 where
  pub queue : IsQueueOf stealers k worker.queue
  pub made : HasMade desk input k pass worker.done.items
  pub run : RunsEach input (had worker.queue) worker.done.items
  pub few : length worker.done.items ≤ MOST_CALLERS * MOST_SCRIPTS

-- from what a worker was to what it is: if its deque has the number of its pass, it did its part, and was dealt no more
pub record DoesItsPart (stealers : Stealers) (desk : DeskView BooksShape) (input : ClearingInput) (old new : Worker)
    (pass : PassView) : Type 0 where
  pub dealt : dealt_to new.queue ≡ dealt_to old.queue
  pub part : old.queue.seat ≡ number pass.view → HasDoneItsPart stealers desk input (number pass.view) new pass

-- all workers did their parts, each with the pass of its place
pub record HaveDoneTheirParts (stealers : Stealers) (desk : DeskView BooksShape) (input : ClearingInput)
    (workers : List Worker) (passes : List PassView) : Type 0 where
  pub stealers_are : length stealers ≡ length workers
  pub count : length passes ≡ length workers
  pub seats : desk.seats ≡ length workers
  pub each : (k : ℕ) (w : Worker) (p : PassView) → k < length workers
      → HasDoneItsPart stealers desk input k (get_or workers k w) (get_or passes k p)

-- a share, and how often each caller was had for it
pub record CountedShare : Type 0 where
  pub share : Share
  pub had : ℕ → ℕ

abbrev pub share_of : CountedShare → Share
share_of counted = counted.share

abbrev pub counted_number : CountedShare → ℕ
counted_number counted = seat_of counted.share

-- the share has all scripts of the callers that were had for it
pub record IsDone (desk : DeskView BooksShape) (input : ClearingInput) (counted : CountedShare) : Type 0 where
  pub made : HasMade desk input (counted_number counted) counted.share.pass counted.share.done.items
  pub run : RanScripts input counted.had 0 0 counted.share.done.items

-- all shares of a day: those of all passes, and for them together each caller was had once
pub record AreAllDone (desk : DeskView BooksShape) (input : ClearingInput) (shares : List Share) : Type 0 where
  pub counted_shares : List CountedShare
  pub are : map share_of counted_shares ≡ shares
  pub numbers : map seat_of shares ≡ range_with_len 0 desk.seats
  pub each : All (IsDone desk input) counted_shares
  pub once : (x : ℕ) → sum_by (λ (t : CountedShare). t.had x) counted_shares ≡ once_below x (length input.callers)
