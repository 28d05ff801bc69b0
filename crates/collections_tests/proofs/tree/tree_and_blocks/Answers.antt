use Rattle.txn_books.proofs.OneState.Parts.{fresh_parts, some_tree}
use Rattle.txn_books.proofs.LaidOut.Small.{small}
use Rattle.collections_tests.proofs.tree.tree_and_blocks.Goals as goal

pub are_answered-ended-requires-clause-order : goal.are_answered-ended-requires-clause-order
are_answered-ended-requires-clause-order c =
    let fresh = fresh_parts c.in_ok-plain.plain.shape small _ c.in_ok-plain.ensures.shape c.in_ok-plain.ensures.trace in
    record { at = λ s fit. some_tree small _ (fresh.at s fit) }
