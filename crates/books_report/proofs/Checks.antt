-- lines of one text, and what stands behind them
pub mod Comparing
-- first wrong lines
pub mod Wrong
-- a text is an output, or has a first wrong line
pub mod Deciding
-- the first words of a text
pub mod Cuts
-- one more line of a journal that is checked
pub mod Audits
-- the lines that two texts have in common
pub mod InCommon
-- what is found while a text is checked
pub mod Found
