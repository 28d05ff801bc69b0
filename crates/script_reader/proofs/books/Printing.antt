-- what the lines of books say of a line behind them
pub mod Printed
-- what the lines of books and of scripts say of a line behind them
pub mod Scripted
-- a script that has not ended, with one more line
pub mod Opened
-- keys that rise, and what stands behind them
pub mod Sections
-- the lines of books with one more entry
pub mod Growing
-- a line of books to which no reason applies adds to the books
pub mod Extending
