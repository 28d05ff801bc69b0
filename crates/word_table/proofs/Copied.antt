-- bits of a pass's own rows and masks
pub mod Rows
-- what a pass's own copy says of its view
pub mod Passes
-- what a pass keeps of versions, and what it is after a step
pub mod VersionCopies
-- the uses that a pass keeps, listed by rising lock
pub mod Listings
-- a pass's copy after a step
pub mod After
