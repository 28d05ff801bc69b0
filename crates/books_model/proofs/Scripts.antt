-- a run of operations, and one of parts, from any of them on
pub mod Runs
-- what holds of a step, and of the run of a script, wherever it is done
pub mod Outcomes
-- scripts by their operations: those of each branch, and of one more part
pub mod Branches
-- what operations do to all cash, and to all that is held of an instrument
pub mod CashLaws
-- no script changes the sizes of books
pub mod SizeLaws
-- books stay in range, whatever is run on them
pub mod RangeLaws
-- margin calls are taken in the order in which they were queued
pub mod QueueLaws
