-- a text is cut into lines in one way, so it has an input or a first fault, not both, and one at most
pub mod OneReading
-- lines without fault are those of books and scripts, as far as they go
pub mod Reaching
-- a text is of an input, or has a first fault
pub mod Deciding
-- a text is of one input at most
pub mod OneInput
-- a text begins with that of an input, or has a first fault there
pub mod FrontLaws
-- lines that were read, and the fault behind them
pub mod Following
-- the branches of an alternative that were read, and the fault behind them
pub mod Branching
-- scripts that were read, and the fault behind them
pub mod Gathered
-- the front of a text: its input, or its fault and the number of the faulty line
pub mod Fronting
-- how many lines are read, and which of them is faulty
pub mod Counting
-- texts that are read in pieces
pub mod Piecing
