use Rattle.txn_books.specs.declared.shape.BooksShape.{BooksShape}
use Rattle.txn_books.proofs.OneState.Parts.{fresh_books}
use Rattle.txn_books.proofs.OneState.States.{tree_apart}
use Rattle.collections_tests.proofs.blocks.first_wrong_of_twenty.Goals as goal

abbrev twenty : BooksShape
twenty = record { blocks = 20; instruments = 1; ring = 1 }

pub first_wrong-requires-clause-order : goal.first_wrong-requires-clause-order
first_wrong-requires-clause-order c =
    let fresh = fresh_books c.in_ok-plain.plain.shape twenty _ c.in_ok-plain.ensures.shape c.in_ok-plain.ensures.trace in
    record { at = λ s fit. let good = fresh.at s fit in (good.1.parts.free, (tree_apart twenty _ good.0 good.1).free_lists) }
