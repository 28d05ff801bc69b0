-- what an appended list of entries leaves
pub mod ReplayLaws
-- a call has fewer attempts that gave way than there are seats
pub mod Attempts
