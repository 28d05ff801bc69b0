-- traces, what they leave, and how their writes are undone
pub mod TraceLaws
-- the last event on a word, and what a trace leaves there
pub mod LastEvents
-- what holds of the lists that fit a trace, and how a fact goes from one call to the next
pub mod FittingLaws
-- notes that are written back restore the words
pub mod UndoLaws
-- going back to a mark
pub mod MarkLaws
-- one event more at the end of a trace: what it touches and writes, and the last event on a word
pub mod EndEvents
-- a trace is legal on every list that agrees on the words that it touches
pub mod TraceAgree
