pub mod Interpreter
pub mod Steps
pub mod Output
pub mod Faults
