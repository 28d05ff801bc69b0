pub mod Reads
pub mod Standing
pub mod Journals
pub mod Days
pub mod Statements
pub mod Inner
