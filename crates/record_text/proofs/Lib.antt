-- what several proofs import
pub mod Common
-- how many blocks records take
pub mod Rooms
-- records are indexed
pub mod Indexes
-- what the index has at a place
pub mod Places
-- records that have their blocks have them after every script
pub mod Kept
-- identifiers are listed
pub mod Listing
-- a record is taken out
pub mod Removals
-- a record is put
pub mod Puts
-- the ranges of operations are those of their lines
pub mod Inputs
-- the text of identifiers and of headers, one piece after another
pub mod Printing
-- records are printed in the order of the index
pub mod Ranked
