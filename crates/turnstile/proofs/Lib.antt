-- what several proofs import
pub mod Common
-- what a trace says of how many are inside
pub mod Entering
