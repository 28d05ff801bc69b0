-- What a worker's queue keeps, and what all queues took together.
use Rattle.std.specs.Prelude.{◌≡◌, ℕ, ◌+◌, ◌<◌, ◌≤◌, List, sum_by, length, get_or}
use Rattle.std.specs.Global.{Global}
use Rattle.crossbeam_deque.specs.declared.handles.Stealer.{Stealer}
use Rattle.crossbeam_deque.specs.Handles.{stealer_deque, worker_deque, worker_view, worker_flavor}
use Rattle.worker_pool.specs.declared.rule.TheConstants.{ALL_PARTS}
use Rattle.worker_pool.specs.declared.rule.Deal.{Deal}
use Rattle.worker_pool.specs.declared.rule.DealRule.{DealRule}
use Rattle.worker_pool.specs.declared.queue.Queue.{Queue}
use Rattle.worker_pool.specs.Counting.{times, once_below}
use Rattle.worker_pool.specs.Inner.Ends.{AreAtEach, stolen}
use Rattle.script_reader.specs.declared.limits.TheConstants.{MOST_CALLERS}

-- what threads share of all deques
abbrev pub Stealers : Type 0
Stealers = List (Stealer ℕ Global Deal DealRule)

-- how often caller x was taken by this queue, from its own deque and from others
abbrev pub had : Queue → ℕ → ℕ
had queue x = times x (worker_view queue.own).taken + stolen queue.passes.items x

-- the callers that were dealt to the queue's own deque
abbrev pub dealt_to : Queue → List ℕ
dealt_to queue = (worker_view queue.own).dealt

-- the queue of the worker with this number: it owns the deque of that number, but for a part for each worker, and has
-- a pass at each deque
pub record IsQueueOf (stealers : Stealers) (seat : ℕ) (queue : Queue) : Type 0 where
  pub seat_is : queue.seat ≡ seat
  pub within : seat < length stealers
  pub few : length stealers < ALL_PARTS
  pub own : (s : Stealer ℕ Global Deal DealRule) → worker_deque queue.own ≡ stealer_deque (get_or stealers seat s)
  pub fifo : worker_flavor queue.own ≡ 0
  pub parts : (worker_view queue.own).parts + length stealers ≡ ALL_PARTS
  pub row : AreAtEach stealers queue.passes.items
  pub count : queue.count ≤ MOST_CALLERS

-- a queue by which nothing was taken yet
pub record HadNone (queue : Queue) : Type 0 where
  pub none : (x : ℕ) → had queue x ≡ 0
  pub count : queue.count ≡ 0

-- what was dealt to all deques, and what is left over, is each caller once
abbrev pub IsDealtOut : ℕ → List (List ℕ) → List ℕ → Type 0
IsDealtOut callers dealt left = (x : ℕ) → sum_by (times x) dealt + times x left ≡ once_below x callers
