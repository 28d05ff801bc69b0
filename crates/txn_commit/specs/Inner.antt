-- What only the contracts of private functions and the proofs cite.
pub mod Releasing
pub mod Asking
pub mod ListWork
