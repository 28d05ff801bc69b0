use Rattle.std.proofs.Common.{sym, ap, subst}
use Rattle.history_model.specs.Fitting.{IsGood}
use Rattle.books_model.specs.Books.{empty_books}
use Rattle.books_model.specs.Interpreter.{outcome_of}
use Rattle.txn_books.specs.declared.shape.BooksShape.{BooksShape}
use Rattle.txn_books.specs.Layout.{words_of}
use Rattle.txn_books.specs.Standing.{Stands, IsGoodFor}
use Rattle.collections_tests.proofs.scripts.run_on_words.Goals as goal

pub run_on_plain-requires-clause-good : goal.run_on_plain-requires-clause-good
run_on_plain-requires-clause-good c =
    subst (λ z. IsGood (words_of z) (IsGoodFor z) c.in_ok-words.words.items) (sym c.of-shape.ensures)
    (record { count = c.in_ok-words.ensures.count; good = (c.args.books.now, c.in_ok-words.ensures.stands) })

pub run_on_plain-requires-clause-range : goal.run_on_plain-requires-clause-range
run_on_plain-requires-clause-range c =
    let shape = c.of-shape.result in
    c.scripts_go_by_instruments.ensures c.args.script.now c.args.books.now (empty_books shape.blocks shape.instruments shape.ring)
    (ap (λ (z : BooksShape). z.instruments) c.of-shape.ensures) c.requires.range

pub read_books-requires : goal.read_books-requires
read_books-requires c =
    let books = c.args.books.now in
    let stand = subst (λ z. Stands z c.in_ok-words.words.items books) (sym c.of-shape.ensures) c.in_ok-words.ensures.stands in
    record {
      good = subst (IsGoodFor c.of-shape.result) (sym c.deref.ensures.value)
          ((outcome_of c.args.script.now books).1, c.in_ok-reply.ensures.words books stand);
    }
