-- what several proofs import
pub mod Common
-- lists of what is made, with one more
pub mod Listing
-- the opening books are in their ranges
pub mod Opening
-- the operations and scripts that are made, of the first kind
pub mod Making
-- a generated text is small enough to be read
pub mod Fitting
-- the scripts are for the opening books, and their callers are few
pub mod Calling
-- sums of weights that are all the same, and how many entries a map has at most
pub mod Classes
-- the books of a generated day: their accounts are the 200 of its opening, so blocks never run out
pub mod Rooms
-- what an operation of a generated script does on the books of a day
pub mod Steps
-- scripts of a generated day, one after the other
pub mod Days
-- sums over the scripts of an input, in whatever order they stand, and over its opening books
pub mod Totals
-- what a generated day comes to, in whatever order its scripts are run
pub mod DayLaws
