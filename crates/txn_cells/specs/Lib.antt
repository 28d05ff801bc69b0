pub mod Spelling
pub mod Pairs
pub mod Cells
pub mod Typed
pub mod Adding
pub mod Rounds
pub mod Inner
pub mod Statements
