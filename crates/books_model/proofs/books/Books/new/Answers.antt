use Rattle.books_model.proofs.InRange.{empty_books-in_range}
use Rattle.books_model.proofs.books.Books.new.Goals as goal

pub invariant_of-result : goal.invariant_of-result
invariant_of-result c = rw (c.new.ensures.empty, c.new-2.ensures.empty, c.new-3.ensures.empty, c.new-4.ensures.items)
    (empty_books-in_range _ _ _ c.requires.blocks c.requires.instruments c.requires.ring)
