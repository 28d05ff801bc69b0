-- sums over a list, class by class
pub mod Classes
-- scripts that follow in turn are those of a journal, and those of a journal follow in turn
pub mod Turns
-- lines of journals tell which scripts were run
pub mod Histories
