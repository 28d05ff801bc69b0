-- what several proofs import
pub mod Common
-- what stands in a list with more at its end
pub mod Members
-- the oldest note of a word, as notes come and go
pub mod Notes
-- what unfinished writes leave that are taken back
pub mod WrittenBack
-- how many calls are open
pub mod Counting
-- what phases say of a call
pub mod Phases
-- locks that shut others out, and stores to words
pub mod Stores
-- what a step owes of notes and of the attempt's trace
pub mod Traces
-- what there is to know: of items and entries, of owed locks and newest values, and what the invariant says to a seat in a call
pub mod Told
-- what a step owes, part by part
pub mod Parts
-- the kinds of step keep the value invariant
pub mod StepKinds
-- views are cut and joined between calls
pub mod CutsAndJoins
-- what holds of the whole table: as it begins, as it is closed, and that every arrangement is a legal history
pub mod Whole
