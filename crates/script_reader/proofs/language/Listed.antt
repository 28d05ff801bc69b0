-- numbers in their ranges, and the words of a header
pub mod Numbers
-- headers of one size and of two, by their places
pub mod Heads
-- what the lines of a text say of a line behind them
pub mod Standing
-- the lines of a text have no fault
pub mod Lawful
-- a text is of one header and one list of scripts at most, and has no fault
pub mod Telling
-- how many lines are read, and which of them is faulty
pub mod Feeds
-- scripts that were read, and the fault behind them
pub mod Behind
-- a text that was read up to its last line, or up to its first fault
pub mod Ending
-- lines without fault are those of a text, as far as they go, so bytes are a text or have a first fault
pub mod Reached
