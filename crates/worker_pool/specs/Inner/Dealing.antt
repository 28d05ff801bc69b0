-- The deques before a worker starts: whose they are, and what was dealt to each.
use Rattle.std.specs.Prelude.{◌≡◌, ℕ, ◌+◌, ◌<◌, ◌==◌, ◌%◌, if◌then◌else◌, List, [], length, get_or}
use Rattle.crossbeam_deque.specs.declared.handles.Stealer.{Stealer}
use Rattle.crossbeam_deque.specs.declared.handles.Worker.{Worker}
use Rattle.crossbeam_deque.specs.Handles.{Pass, view, IsPassOf, stealer_deque, stealer_flavor, worker_deque, worker_view, worker_flavor}
use Rattle.worker_pool.specs.declared.rule.Deal.{Deal}
use Rattle.worker_pool.specs.declared.rule.TheConstants.{ALL_PARTS}
use Rattle.worker_pool.specs.Counting.{times, once_below}
use Rattle.worker_pool.specs.Deques.{deal}

-- the number if it is deque k's turn, among so many, for caller x; and else 0
abbrev pub at_turn : ℕ → ℕ → ℕ → ℕ → ℕ
at_turn many k x n = if x % many == k then n else 0

module _ {A P : Type 0} where
  -- both are ends of one deque, which is first in, first out
  pub record IsShown (s : Stealer ℕ A Deal P) (w : Worker ℕ A Deal P) : Type 0 where
    pub deque : worker_deque w ≡ stealer_deque s
    pub own_fifo : worker_flavor w ≡ 0
    pub fifo : stealer_flavor s ≡ 0

  -- of each deque both ends, in one order
  pub record AreShown (stealers : List (Stealer ℕ A Deal P)) (owners : List (Worker ℕ A Deal P)) : Type 0 where
    pub count : length stealers ≡ length owners
    pub each : (k : ℕ) (s : Stealer ℕ A Deal P) (w : Worker ℕ A Deal P) → k < length owners → IsShown (get_or stealers k s) (get_or owners k w)

  -- an owner with so many parts less, who dealt and took as before
  pub record HasLess (less : ℕ) (old new : Worker ℕ A Deal P) : Type 0 where
    pub deque : worker_deque new ≡ worker_deque old
    pub fifo : worker_flavor new ≡ worker_flavor old
    pub parts : (worker_view new).parts + less ≡ (worker_view old).parts
    pub dealt : (worker_view new).dealt ≡ (worker_view old).dealt
    pub taken : (worker_view new).taken ≡ (worker_view old).taken

  pub record HaveLess (less : ℕ) (old new : List (Worker ℕ A Deal P)) : Type 0 where
    pub count : length new ≡ length old
    pub each : (k : ℕ) (w : Worker ℕ A Deal P) → k < length old → HasLess less (get_or old k w) (get_or new k w)

  -- an owner who may have dealt more, and took as before
  pub record IsStill (old new : Worker ℕ A Deal P) : Type 0 where
    pub deque : worker_deque new ≡ worker_deque old
    pub fifo : worker_flavor new ≡ worker_flavor old
    pub parts : (worker_view new).parts ≡ (worker_view old).parts
    pub taken : (worker_view new).taken ≡ (worker_view old).taken

  pub record AreStill (old new : List (Worker ℕ A Deal P)) : Type 0 where
    pub count : length new ≡ length old
    pub each : (k : ℕ) (w : Worker ℕ A Deal P) → k < length old → IsStill (get_or old k w) (get_or new k w)

  -- an owner who gave away so many parts, and took nothing yet
  pub record IsFree (given : ℕ) (w : Worker ℕ A Deal P) : Type 0 where
    pub parts : (worker_view w).parts + given ≡ ALL_PARTS
    pub taken : (worker_view w).taken ≡ []

  -- a pass with one part of the owner's deque, that took nothing yet
  pub record IsNew (w : Worker ℕ A Deal P) (p : Pass ℕ Deal A) : Type 0 where
    pub deque : IsPassOf (worker_deque w) p
    pub view_is : view p ≡ deal 1 [] []

  -- such a pass at each deque
  pub record IsNewRow (owners : List (Worker ℕ A Deal P)) (row : List (Pass ℕ Deal A)) : Type 0 where
    pub count : length row ≡ length owners
    pub each : (k : ℕ) (w : Worker ℕ A Deal P) (p : Pass ℕ Deal A) → k < length owners → IsNew (get_or owners k w) (get_or row k p)

  -- one caller was dealt to the deque whose turn it is, or joined the list
  abbrev pub DealsOne : ℕ → List (Worker ℕ A Deal P) → List (Worker ℕ A Deal P) → List ℕ → List ℕ → Type 0
  DealsOne caller old new left more = (k : ℕ) (w : Worker ℕ A Deal P) (x : ℕ) → k < length old
      → times x (worker_view (get_or new k w)).dealt + at_turn (length old) k x (times x more)
      ≡ times x (worker_view (get_or old k w)).dealt + at_turn (length old) k x (times x left) + at_turn (length old) k x (if caller == x then 1 else 0)

  -- each deque was dealt the callers below the bound whose number modulo the number of deques is its own, each once, but
  -- for those of the list, of which each stands there once
  pub record AreDealtInTurn (callers : ℕ) (owners : List (Worker ℕ A Deal P)) (left : List ℕ) : Type 0 where
    pub each : (k : ℕ) (w : Worker ℕ A Deal P) (x : ℕ) → k < length owners
        → times x (worker_view (get_or owners k w)).dealt + at_turn (length owners) k x (times x left)
        ≡ at_turn (length owners) k x (once_below x callers)
