pub mod Codes
pub mod InputCode
