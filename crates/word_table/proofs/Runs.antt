-- every state of a run meets the rule
pub mod RunLaws
-- in every state of every run: who meets whom, and what holds of each call
pub mod Meetings
-- the run in which the seats are dealt out: one cut after another, until each number has a view of its own
pub mod Dealing
-- a call has one timestamp at most, from the step that draws it until the call ends
pub mod Stamped
-- the clock counts the timestamps that were drawn, so no step but a draw changes it
pub mod Drawing
-- which words the steps of a call change
pub mod Writing
-- an entry that was made stands in every later state
pub mod Recorded
-- what a pass has seen stands before the entries of its later calls; and where an entry stands
pub mod Later
-- the seats of a desk begin fewer than 2^37 calls together
pub mod Counted
-- no seats wait for one another in a circle
pub mod Waiting
-- and waits lead to a call that waits for no seat
pub mod Ending
-- a look that leaves an attempt as it was is a wait
pub mod Looking
-- and both kinds of wait arise
pub mod Arising
