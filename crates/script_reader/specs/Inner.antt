-- What only the contracts of private functions and the proofs cite.
pub mod Codes
pub mod LinesAsWords
pub mod BooksRows
pub mod Scripts
pub mod Cuts
pub mod Branches
pub mod OfVersion
pub mod Gatherings
pub mod ListScripts
pub mod Heads
