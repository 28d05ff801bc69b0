pub mod FreeLists
pub mod Statements
pub mod EntryMaps
pub mod Blocks
pub mod Spread
pub mod Laying
