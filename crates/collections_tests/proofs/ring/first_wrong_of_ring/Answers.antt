use Rattle.txn_books.proofs.OneState.Parts.{fresh_books}
use Rattle.txn_books.proofs.OneState.States.{queue_held}
use Rattle.txn_books.proofs.LaidOut.Small.{small}
use Rattle.collections_tests.proofs.ring.first_wrong_of_ring.Goals as goal

pub first_wrong-requires-clause-order : goal.first_wrong-requires-clause-order
first_wrong-requires-clause-order c =
    let fresh = fresh_books c.in_ok-plain.plain.shape small _ c.in_ok-plain.ensures.shape c.in_ok-plain.ensures.trace in
    record { at = λ s fit. let good = fresh.at s fit in (good.0.calls, queue_held small _ good.0 good.1) }
