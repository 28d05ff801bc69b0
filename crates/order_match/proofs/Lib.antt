-- what several proofs import
pub mod Common
-- the order of keys is the order in which orders are served
pub mod Served
-- sums over the numbers of parts, one of which may change
pub mod Sums
-- the parts of a book as one family: a change of one leaves all others
pub mod Family
-- what calls on one part say of all of them
pub mod OnParts
-- what a call on one part leaves, as laws
pub mod Changes
-- items as a finite map, by a key and with a value of each
pub mod Keyed
-- what the parts hold for a book, and after a change of it
pub mod Books
-- the book that words stand for is one, and takes the blocks that are not free
pub mod Whole
-- the operations of a script one after another
pub mod Scripted
-- the words of a book with no order
pub mod Emptied
-- the best price of a side, by the first key of its tree
pub mod Best
-- the last order number, as it is read and written
pub mod LastNumber
-- what calls on the parts say of a book
pub mod Calls
-- all orders of a book, by looking each number up that was given
pub mod Lookups
-- one turn of trading is one step down the partners
pub mod Filling
-- a book after a trade of one of its orders
pub mod Filled
-- the partner that an order trades with first
pub mod Partners
-- an order that enters, from what was done to the parts
pub mod Entering
-- what an order that enters comes to is the interpreter's step
pub mod Entered
-- a day, from what was run in order
pub mod Days
