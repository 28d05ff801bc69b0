-- the place where a new node hangs, in one word list
pub mod Seats
-- a node hung at the end of a path, which goes on to one side below it
pub mod Descents
-- the steps by which a tree is parted around a key, in one word list
pub mod SplitSteps
-- what the calls that part a tree lead to, in every fitting state at once
pub mod SplitCalls
-- a new cell put into the tree, in one word list
pub mod PutSteps
-- a tree laid by its right spine, in one word list
pub mod SpineSteps
-- what the call that puts a new cell into the tree leads to, in every fitting state at once
pub mod PutCalls
-- another value at a key that was found
pub mod Values
-- another value at a key whose block is known
pub mod InPlace
-- what an insert of a new key leads to, writes and reads, in every fitting state at once
pub mod InsertCalls
