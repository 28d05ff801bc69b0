-- notes are taken and met
pub mod Noting
-- how many of the records wrote a lock
pub mod Counting
-- all passes of a table come together: the last seat has all numbers, and what it knows says what the table left
pub mod Gathering
