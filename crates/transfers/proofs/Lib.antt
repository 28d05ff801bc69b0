-- what several proofs import
pub mod Common
-- the sum of a list when an amount goes from one word to another
pub mod Sums
-- what a transfer's trace says of the lists that fit it
pub mod Transferring
-- what an audit has summed so far
pub mod Auditing
-- a word is read, and written with a sum
pub mod Summing
-- sums that fit, one after the other
pub mod Fitting
-- the counter grows by one amount more
pub mod Growing
-- what adding all amounts means, at the two ends of the loop
pub mod Meaning
