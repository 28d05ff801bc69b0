use Rattle.txn_books.proofs.OneState.Parts.{fresh_books}
use Rattle.txn_books.proofs.OneState.States.{tree_apart}
use Rattle.txn_books.proofs.LaidOut.Small.{small}
use Rattle.collections_tests.proofs.blocks.take_until_none_and_give_back.Goals as goal

pub take_all-requires-clause-order : goal.take_all-requires-clause-order
take_all-requires-clause-order g c =
    let fresh = fresh_books c.in_ok-plain.plain.shape small _ c.in_ok-plain.ensures.shape c.in_ok-plain.ensures.trace in
    record { at = λ s fit. let good = fresh.at s fit in (good.1.parts.free, (tree_apart small _ good.0 good.1).free_lists) }
