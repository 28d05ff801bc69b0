-- what the proofs of jobs and clients cite
pub mod Common
