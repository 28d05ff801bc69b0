-- what several proofs import
pub mod Common
-- lists by their places
pub mod ListPlaces
-- traces: what they leave and what fits them, their notes and marks
pub mod Traces
-- what entries leave, and how many attempts a call has
pub mod Histories
-- what a set has after something joined or left it
pub mod SetLemmas
-- views by their places, and how they change
pub mod Views
-- the table's words
pub mod TableLaws
-- items and their arrangements
pub mod Items
