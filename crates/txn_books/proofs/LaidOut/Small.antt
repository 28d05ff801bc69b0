-- The size of the books of tests.
use Rattle.txn_books.proofs.Common.{BooksShape}

abbrev pub small : BooksShape
small = record { blocks = 2; instruments = 1; ring = 1 }
