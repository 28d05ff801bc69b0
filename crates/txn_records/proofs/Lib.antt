-- what several proofs import
pub mod Common
-- two trees over one arena: a change of one leaves the other
pub mod Two
-- the two trees of a record store, each beside the other
pub mod Sides
-- trees that hold records, and hold them after a change
pub mod Held
-- how many entries trees have that hold records
pub mod Lengths
-- the records that words stand for are one, and take the blocks that are not free
pub mod Whole
-- what calls on the trees say of records
pub mod Calls
-- a record that is put, from what was done to the trees
pub mod Puts
-- the keys of the index, in order
pub mod Keys
-- identifiers listed one by one, down the keys
pub mod Listed
-- the operations of a script one after another
pub mod Scripted
-- the words of a store with no record
pub mod Emptied
