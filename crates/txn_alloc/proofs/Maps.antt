-- lists of cells: what they say of a key, which blocks they have, and how often
pub mod Cells
-- how many blocks sets have
pub mod Counting
-- what maps on blocks have in common: lemmas over any map's part of the words
pub mod Parts
-- what a call of any map on blocks leads to, writes and reads, if its search found the key and if it missed it
pub mod Founds
-- all that an insert of any map on blocks promises: if the key was there, if it was put in, and if no block was free
pub mod Inserted
-- calls of a map within a job
pub mod InJobs
