-- a walk over entries in the order of their keys: each is the first above the one before
pub mod Walks
-- walks over the three maps of books
pub mod Walked
