pub mod Layout
pub mod Standing
pub mod Statements
pub mod Access
pub mod Operating
pub mod Meaning
pub mod Inner
