-- Which pass is of which deque, and what was taken through a row of passes.
use Rattle.std.specs.Prelude.{◌≡◌, ℕ, ◌+◌, ◌<◌, ◌≤◌, List, [], sum_by, length, get_or}
use Rattle.crossbeam_deque.specs.declared.handles.Stealer.{Stealer}
use Rattle.crossbeam_deque.specs.declared.handles.Worker.{Worker}
use Rattle.crossbeam_deque.specs.Handles.{Pass, view, IsPassOf, stealer_deque, stealer_flavor, worker_deque, worker_view, worker_flavor}
use Rattle.worker_pool.specs.declared.rule.Deal.{Deal}
use Rattle.worker_pool.specs.declared.rule.TheConstants.{ALL_PARTS}
use Rattle.worker_pool.specs.Counting.{times}

module _ {A P : Type 0} where
  -- a pass with one part of the stealer's deque, which is first in, first out
  pub record IsPassAt (s : Stealer ℕ A Deal P) (p : Pass ℕ Deal A) : Type 0 where
    pub deque : IsPassOf (stealer_deque s) p
    pub part : (view p).parts ≡ 1
    pub dealt : (view p).dealt ≡ []
    pub fifo : stealer_flavor s ≡ 0

  -- a row of passes, one at each deque
  pub record AreAtEach (stealers : List (Stealer ℕ A Deal P)) (passes : List (Pass ℕ Deal A)) : Type 0 where
    pub count : length passes ≡ length stealers
    pub each : (k : ℕ) (s : Stealer ℕ A Deal P) (p : Pass ℕ Deal A) → k < length stealers → IsPassAt (get_or stealers k s) (get_or passes k p)

  -- an owner with more parts of its deque than so many, and one with all
  abbrev pub HasOver : ℕ → Worker ℕ A Deal P → Type 0
  HasOver n w = n < (worker_view w).parts

  abbrev pub HasAll : Worker ℕ A Deal P → Type 0
  HasAll w = (worker_view w).parts ≡ ALL_PARTS

  -- a pass with one part of the owner's deque
  pub record IsGuest (w : Worker ℕ A Deal P) (p : Pass ℕ Deal A) : Type 0 where
    pub deque : IsPassOf (worker_deque w) p
    pub part : (view p).parts ≡ 1
    pub dealt : (view p).dealt ≡ []
    pub own : 0 < (worker_view w).parts

  -- passes at the first deques, one at each
  pub record AreGuests (ws : List (Worker ℕ A Deal P)) (ps : List (Pass ℕ Deal A)) : Type 0 where
    pub count : length ps ≤ length ws
    pub each : (k : ℕ) (w : Worker ℕ A Deal P) (p : Pass ℕ Deal A) → k < length ps → IsGuest (get_or ws k w) (get_or ps k p)

  -- an owner with so many parts more, to whose deque nothing more was dealt
  pub record HasMore (more : ℕ) (old new : Worker ℕ A Deal P) : Type 0 where
    pub deque : worker_deque new ≡ worker_deque old
    pub fifo : worker_flavor new ≡ worker_flavor old
    pub parts : (worker_view new).parts ≡ (worker_view old).parts + more
    pub dealt : (worker_view new).dealt ≡ (worker_view old).dealt

  -- all owners, each with so many parts more
  pub record HaveMore (more : ℕ) (old new : List (Worker ℕ A Deal P)) : Type 0 where
    pub count : length new ≡ length old
    pub each : (k : ℕ) (w : Worker ℕ A Deal P) → k < length old → HasMore more (get_or old k w) (get_or new k w)

  -- how often all owners took caller x, by themselves and by what was given back to them
  abbrev pub owners_took : List (Worker ℕ A Deal P) → ℕ → ℕ
  owners_took ws x = sum_by (λ (w : Worker ℕ A Deal P). times x (worker_view w).taken) ws

  -- how often caller x was dealt to a deque
  abbrev pub owners_dealt : List (Worker ℕ A Deal P) → ℕ → ℕ
  owners_dealt ws x = sum_by (λ (w : Worker ℕ A Deal P). times x (worker_view w).dealt) ws

module _ {A : Type 0} where
  -- how often caller x was stolen through these passes
  abbrev pub stolen : List (Pass ℕ Deal A) → ℕ → ℕ
  stolen ps x = sum_by (λ (p : Pass ℕ Deal A). times x (view p).taken) ps

-- of two ways to say how often each number was had: they say the same
abbrev pub HadSame : (ℕ → ℕ) → (ℕ → ℕ) → Type 0
HadSame old new = (x : ℕ) → new x ≡ old x
