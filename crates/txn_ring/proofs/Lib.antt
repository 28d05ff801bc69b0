pub mod Common
pub mod Places
pub mod Items
pub mod Traces
