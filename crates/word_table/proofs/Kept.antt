-- the kinds of step on timestamps keep the value invariant
pub mod ClockPairs
-- the kinds of step on calls, values and entries keep the timestamp invariant
pub mod ValuePairs
-- the kinds of step on versions keep the other invariants: their words are of nobody else
pub mod VersionPairs
-- every kind of step, every cut and every join keeps that no version is above the number of entries
pub mod Bounded
-- every kind of step keeps what holds of a table, in its four parts
pub mod KeptKinds
-- the cuts of a view and the joins of two keep what holds of a table, in its four parts
pub mod KeptChanges
-- each atomic operation may be any kind of step that fits it
pub mod Soundness
-- a rule of views alone, of seats whose steps are counted
pub mod Numbered
-- a version has room for one more, and so has the clock
pub mod Growing
