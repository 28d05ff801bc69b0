-- what several proofs import
pub mod Common
-- words from a place on, as a list and one by one
pub mod Windows
-- what is known of cells' values, as words are read and put in
pub mod Values
-- what calls on cells do to values, in every state that fits
pub mod Calls
-- a cell's words, read and put in one by one
pub mod Turns
-- the calls of an array, over any words
pub mod Arrays
-- two cells are read, and their values put in crosswise
pub mod Swapping
-- sums of terms by number, and sums over a list each of whose members has a number
pub mod SumsBelow
-- lists that have one member for each round of each caller
pub mod Keyed
-- what additions come to, one after another
pub mod AddingUp
-- one caller's addition to a cell, and both of a round
pub mod Additions
-- cells that have 0
pub mod Beginning
-- what callers did, from what each of them did
pub mod Gathering
-- a closed table whose callers have made their rounds
pub mod Finishing
