-- Clients with their passes, before and after their threads.
use Rattle.std.specs.Prelude.{◌≡◌, List, map, All, false}
use Rattle.word_table.specs.Copies.{PassView}
use Rattle.word_table.specs.Desks.{DeskView}
use Rattle.txn_threads.specs.declared.seat.Seat.{Seat}
use Rattle.txn_threads.specs.Clients.{IsReadyFor}
use Rattle.txn_threads.specs.Passes.{IsFresh, IsNext}

module _ {S C : Type 0} where
  -- a client that may begin, with a fresh pass
  pub record IsReady (shape_of : C → S) (can_begin : C → Type 0) (desk : DeskView S) (seat : Seat C S) : Type 0 where
    pub client : IsReadyFor shape_of can_begin desk seat.client
    pub fresh : IsFresh desk seat.pass

  -- what seats have, none of whose clients failed
  pub record AreParts (seats : List (Seat C S)) (clients : List C) (passes : List PassView) : Type 0 where
    pub none_failed : All (λ (seat : Seat C S). seat.failed ≡ false) seats
    pub clients_are : clients ≡ map (λ (seat : Seat C S). seat.client) seats
    pub passes_are : passes ≡ map (λ (seat : Seat C S). seat.pass) seats

  module _ (does : DeskView S → C → C → PassView → PassView → Type 0) (desk : DeskView S) where
    -- a client whose thread has ended: it has its pass still, and unless it found no memory, it did its work
    pub record HasEnded (old new : Seat C S) : Type 0 where
      pub next : IsNext old.pass new.pass
      pub done : new.failed ≡ false → does desk old.client new.client old.pass new.pass
