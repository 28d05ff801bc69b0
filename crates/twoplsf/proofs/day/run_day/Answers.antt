use Rattle.twoplsf.proofs.Common.{◌≡◌, sym, ap, ◌∙◌, subst, BooksShape, shape_of}
use Rattle.txn_books.proofs.Common.{IsGood, words_of, IsGoodFor}
use Rattle.twoplsf.proofs.day.run_day.Goals as goal

pub new-requires-clause-good : goal.new-requires-clause-good
new-requires-clause-good g c =
    let made = c.in_ok-words.ensures in
    let shape_is : c.of-shape.result ≡ shape_of c.books-2.result.now = c.of-shape.ensures ∙ ap shape_of (c.books.ensures ∙ sym c.books-2.ensures) in
    subst (λ (s : BooksShape). IsGood (words_of s) (IsGoodFor s) c.in_ok-words.words.items) (sym shape_is)
    (record { count = made.count; good = (c.books-2.result.now, made.stands) })
