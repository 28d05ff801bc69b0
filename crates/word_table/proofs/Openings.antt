-- words behind zeros, and the places of one view
pub mod Zeros
-- at the start there is no entry, no call was begun, and the values are those that the memory began with
pub mod OpeningValues
-- how a table begins: one view has all numbers, and no lock is held
pub mod Opening
-- a desk that a test opens
pub mod Opened
