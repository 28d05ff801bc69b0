-- the steps of a walk through the nodes in the order of their keys, in one word list
pub mod WalkSteps
-- the steps of a sum over keys, in one word list
pub mod SumSteps
-- what a sum over keys learns and reads, in every fitting state at once
pub mod SumCalls
-- what the first entry from a key on is, and what is read of it
pub mod FirstEntries
