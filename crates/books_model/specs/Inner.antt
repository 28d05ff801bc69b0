-- What only the contracts of private functions and the proofs cite.
pub mod Codes
pub mod Keys
pub mod Changes
pub mod Draft
pub mod Steps
