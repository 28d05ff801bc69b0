-- the lines of books and of scripts, one more at a time
pub mod Printing
-- lines that have no fault, up to those of a whole input
pub mod WithoutFault
-- whole texts: of one input, or with a first fault
pub mod Texts
-- the versions of texts
pub mod Versions
-- the operations of a script, each once
pub mod OperationRows
-- the ranges of the numbers in each row of books
pub mod RowRanges
-- lines without a fault
pub mod NoneFaulty
-- where the next line of a script stands
pub mod Regions
