pub mod Books
pub mod Scripts
pub mod Ranges
pub mod Interpreter
pub mod Words
pub mod Laws
pub mod Inner
