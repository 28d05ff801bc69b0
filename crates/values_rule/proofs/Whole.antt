-- every arrangement is a legal history
pub mod Legality
-- a view that has all numbers has seen all entries
pub mod Closing
-- it holds of a table as it begins
pub mod Opening
-- the memory with all unfinished writes taken back
pub mod Undone
