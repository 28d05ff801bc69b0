-- What only the contracts of private functions and the proofs cite.
pub mod Deals
pub mod Ends
pub mod Dealing
pub mod Finishing
pub mod Queues
pub mod Makers
pub mod Workers
