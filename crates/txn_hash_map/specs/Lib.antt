pub mod Chains
pub mod Searches
pub mod Statements
