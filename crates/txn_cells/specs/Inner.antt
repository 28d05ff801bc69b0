-- What contracts of functions within the crate cite, and no public contract does.
pub mod Puts
pub mod Adding
