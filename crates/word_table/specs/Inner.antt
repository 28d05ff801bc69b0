-- what has happened while read bits are given up
pub mod Unsharing
