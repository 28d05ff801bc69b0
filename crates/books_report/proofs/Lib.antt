-- what several proofs import
pub mod Common
-- the text of outputs: of replies, journals and closing books
pub mod Outputs
-- walks over the maps of books, in the order of their keys
pub mod Walking
-- which scripts a journal tells of, and in what order
pub mod Order
-- what the check of a text finds
pub mod Checks
-- stores of any language: runs of their operations, and their journals
pub mod AnyStore
