pub mod Uses
pub mod Attempts
pub mod Transactions
pub mod Lists
pub mod Ordered
pub mod Jobs
pub mod Inner
