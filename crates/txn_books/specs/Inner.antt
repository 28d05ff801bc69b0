pub mod Reading
pub mod Rooms
pub mod Building
pub mod Trading
pub mod Scripts
