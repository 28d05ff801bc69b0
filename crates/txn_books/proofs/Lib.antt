-- what several proofs import
pub mod Common
-- what words that stand for books say of each part, and of a change of one
pub mod OneState
-- books read off words, entry by entry
pub mod ReadOff
-- words laid out for books: empty ones, those of tests, and the free blocks
pub mod LaidOut
-- what calls and operations on words say of books
pub mod OnBooks
