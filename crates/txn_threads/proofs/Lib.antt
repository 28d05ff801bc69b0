pub mod Common
-- Clients with their passes: what each thread leaves, and what all leave together.
pub mod Yielded
pub mod Seating
pub mod Working
pub mod Ending
