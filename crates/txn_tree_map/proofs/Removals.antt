-- the steps by which two trees are joined, in one word list
pub mod JoinSteps
-- what the calls that join two trees lead to, in every fitting state at once
pub mod JoinCalls
-- a cell cut out of the tree, in one word list
pub mod CutSteps
-- what a removal leads to, writes and reads, in every fitting state at once
pub mod RemoveCalls
