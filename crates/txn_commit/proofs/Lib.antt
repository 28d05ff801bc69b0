-- what several proofs import
pub mod Common
-- giving up locks and undoing writes
pub mod Releasing
-- the uses of an attempt, listed by rising lock
pub mod Listing
-- which words a call asked for
pub mod Footprints
-- an attempt between two of its calls
pub mod Attempts
-- what asking for a lock comes to, and a load after it leaves
pub mod Asking
-- an attempt is settled: its writes are kept or undone, what it used is listed, and it gets its entry, or is given up
pub mod Settling
-- how a transaction begins and ends
pub mod Ending
-- lists that are put together of others
pub mod Flattened
-- items and the records of their calls
pub mod Recorded
-- what one worker ran of lists of jobs
pub mod ListWork
-- how far a worker has come with the lists of the callers
pub mod UnderWay
-- what all workers ran of them
pub mod AllLists
-- what was run, in the order that is rebuilt from what it used
pub mod Orders
-- how many jobs lists of jobs of one type have, and which
pub mod JobCounts
