-- what several proofs import
pub mod Common
-- a finite map after a change at a key
pub mod Maps
-- calls one after another on words that stand for a model, first looks and then changes
pub mod Turning
-- the operations of a script one after another
pub mod Scripted
-- the numbers of a range, each once
pub mod Ranges
-- jobs that were run once and in their order are a journal, and as many as the scripts
pub mod Journals
-- the words of an empty store
pub mod Emptied
-- a day of a store, from jobs that were run in order, and what is printed of it
pub mod Days
