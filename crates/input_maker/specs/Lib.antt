pub mod Generator
pub mod Lines
pub mod Made
pub mod Statements
pub mod Days
