use Rattle.twoplsf.proofs.Common.{◌≡◌, ℕ, List, sym, ap, ◌∙◌, subst, IfOk-weaker, ClearingBooks, BooksShape, shape_of, closing_books}
use Rattle.txn_books.proofs.Common.{Stands}
use Rattle.twoplsf.proofs.answer.closing_of.Goals as goal

pub read_books-requires : goal.read_books-requires
read_books-requires c =
    let day = c.args.day.now in
    let input = c.args.input.now in
    let left = closing_books input day in
    let shape_is : c.of-shape.result ≡ day.closed.shape = c.of-shape.ensures ∙ ap shape_of c.books.ensures ∙ c.requires.opening.sizes in
    record {
      good = (
        left,
        subst (λ (s : BooksShape). Stands s c.words.result.now left) (sym shape_is)
            (subst (λ (w : List ℕ). Stands day.closed.shape w left) (sym c.words.ensures) c.requires.is_day.left),
      );
    }

pub returns : goal.returns
returns c =
    let day = c.args.day.now in
    let input = c.args.input.now in
    let shape_is : c.of-shape.result ≡ day.closed.shape = c.of-shape.ensures ∙ ap shape_of c.books.ensures ∙ c.requires.opening.sizes in
    IfOk-weaker c.read_books.result _ _
    (λ (closing : ClearingBooks) found.
    let stands : Stands day.closed.shape day.closed.words closing =
    subst (λ (w : List ℕ). Stands day.closed.shape w closing) c.words.ensures
    (subst (λ (s : BooksShape). Stands s c.words.result.now closing) shape_is found) in
    c.one_books.ensures day.closed.shape day.closed.words closing (closing_books input day) stands c.requires.is_day.left)
    c.read_books.ensures.found
