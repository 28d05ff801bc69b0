pub mod Counts
pub mod Memory
pub mod Standard
pub mod Sure
pub mod Taken
