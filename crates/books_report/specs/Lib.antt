pub mod Words
pub mod Journals
pub mod Output
pub mod Lines
pub mod Checking
pub mod Statements
pub mod Stores
pub mod Inner
