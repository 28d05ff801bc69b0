-- What all clients of a table come to.
use Rattle.std.specs.Prelude.{◌≡◌, ℕ, ◌<◌, List, [], ◌∷◌, length, get_or}
use Rattle.word_table.specs.Closing.{AreSeenBy, ClosedView}
use Rattle.word_table.specs.Copies.{PassView}
use Rattle.word_table.specs.Desks.{DeskView}
use Rattle.txn_threads.specs.Passes.{IsFresh, IsNext, IsPass}

-- a client that may begin at this desk
pub record IsReadyFor {S C : Type 0} (shape_of : C → S) (can_begin : C → Type 0) (desk : DeskView S) (client : C) : Type 0 where
  pub begins : can_begin client
  pub shape_is : desk.shape ≡ shape_of client

module _ {S C : Type 0} (does : DeskView S → C → C → PassView → PassView → Type 0) where
  -- a client did its work with pass k, which was fresh
  pub record HasWorked (desk : DeskView S) (k : ℕ) (old new : C) (after : PassView) : Type 0 where
    pub before : PassView
    pub fresh : IsFresh desk before
    pub next : IsNext before after
    pub who_is : after.view.who ≡ k ∷ []
    pub done : does desk old new before after

  -- all clients did their work at one desk, each with the pass of its place, and these are the passes
  pub record HaveWorkedAt (desk : DeskView S) (old new : List C) (passes : List PassView) : Type 0 where
    pub left : length new ≡ length old
    pub count : length passes ≡ length old
    pub each : (k : ℕ) (c : C) (p : PassView) → k < length old → HasWorked desk k (get_or old k c) (get_or new k c) (get_or passes k p)
    pub of_desk : (k : ℕ) (p : PassView) → k < length passes → IsPass desk k (get_or passes k p)
    pub seats : desk.seats ≡ length passes

  -- all clients did their work at one table, each with the pass of its place, and the table is closed: its records are what
  -- the passes saw
  pub record HaveWorked (closed : ClosedView S) (old new : List C) : Type 0 where
    pub desk : DeskView S
    pub base_is : desk.base ≡ closed.base
    pub seats_are : desk.seats ≡ closed.seats
    pub shape_is : desk.shape ≡ closed.shape
    pub passes : List PassView
    pub left : length new ≡ length old
    pub count : length passes ≡ length old
    pub each : (k : ℕ) (c : C) (p : PassView) → k < length old → HasWorked desk k (get_or old k c) (get_or new k c) (get_or passes k p)
    pub seen : AreSeenBy passes closed.records
