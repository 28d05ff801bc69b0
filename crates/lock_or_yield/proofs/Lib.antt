-- what several proofs import
pub mod Common
-- what share leaves of what a pass knows
pub mod Steps
-- what scan leaves of what a pass knows, and how many seats a claim still has to scan
pub mod Scanning
-- what claim leaves of what a pass knows, and what it comes to with the scans
pub mod Claiming
-- what a turn comes to, from its steps on locks and the judgement of the seat that it met
pub mod Turning
-- what several turns of asking for a lock come to
pub mod Wanting
-- two passes that are all passes of a desk
pub mod TwoPasses
