-- what two lists of entries come to together
pub mod Gains
-- the join of two views keeps it
pub mod Joins
-- the cut of a view in two keeps it
pub mod Cuts
