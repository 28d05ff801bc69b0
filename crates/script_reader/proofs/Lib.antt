-- what several proofs import
pub mod Common
-- what the exit of a `?` hands on
pub mod HandedOn
-- lists that are put together
pub mod Joined
-- tests over lists that are put together
pub mod Conditions
-- the first fault of a text by any judge
pub mod Judging
-- whole texts by any judge
pub mod Judged
-- lines by their kinds, and what is wrong with one
pub mod LineFaults
-- whether a search finds an element
pub mod Finding
