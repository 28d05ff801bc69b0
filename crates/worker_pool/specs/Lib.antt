pub mod Counting
pub mod Deques
pub mod Days
pub mod Inner
