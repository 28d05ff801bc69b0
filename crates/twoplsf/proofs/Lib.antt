-- what several proofs import
pub mod Common
-- the text of a day is an output
pub mod Days
-- lines of a journal that are written in two pieces
pub mod Printed
-- command lines of a few words
pub mod Commands
-- sums over the entries of a map, in the order of their keys
pub mod Summing
-- what a drill says of the closing books
pub mod Drills
-- the lines of cells, one after another
pub mod CellLines
-- what goes with each status, said by the words and the bytes that were read
pub mod ByWords
-- what follows of words, of the bytes that were read, and of the text that was printed
pub mod Served
-- from what was read and answered to what serving came to
pub mod Serving
-- what follows from the text that the sink took
pub mod FromText
-- what is said of a status, said of its number
pub mod Endings
