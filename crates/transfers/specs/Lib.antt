-- what a transfer, an audit and a look mean, and a request of any kind
pub mod Moving
pub mod Requests
-- what lists of requests come to
pub mod Telling
-- what a counter's jobs mean
pub mod Counting
-- what it means to put a key into a map
pub mod Putting
