use Rattle.std.proofs.Common.{sym, subst}
use Rattle.history_model.specs.Fitting.{IsGood}
use Rattle.txn_books.specs.declared.shape.BooksShape.{BooksShape}
use Rattle.txn_books.specs.Layout.{words_of}
use Rattle.txn_books.specs.Standing.{IsGoodFor}
use Rattle.collections_tests.proofs.built.built.Goals as goal

pub new-requires : goal.new-requires
new-requires c =
    subst (λ (shape : BooksShape). IsGood (words_of shape) (IsGoodFor shape) c.in_ok-words.words.items) (sym c.of.ensures)
    (record { count = c.in_ok-words.ensures.count; good = (c.new-books.result, c.in_ok-words.ensures.stands) })
