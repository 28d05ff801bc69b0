-- what several proofs import
pub mod Common
-- maps of numbers, by their entries in the order of their keys
pub mod Maps
-- books that stay in range
pub mod InRange
-- sums over books: cash between two accounts, and what positions are worth
pub mod Sums
-- queues from which some were taken at the front
pub mod Queues
-- what changes do to books in range
pub mod Drafts
-- what operations and whole scripts do to books
pub mod Scripts
