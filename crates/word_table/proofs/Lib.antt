-- what several proofs import
pub mod Common
-- what a pass keeps of its view: its bits, what the copy says, and what it is after a step
pub mod Copied
-- every kind of step, every cut and every join keeps what holds of a table, in its four parts
pub mod Kept
-- how a table begins, and a desk that a test opens
pub mod Openings
-- runs of a table: every state meets the rule, who meets whom, what holds of each call and of the clock
pub mod Runs
-- what the calls of a desk answer, and what their steps tell
pub mod Calls
-- what one view has seen goes over to another: notes, and all passes as they come together
pub mod Joined
