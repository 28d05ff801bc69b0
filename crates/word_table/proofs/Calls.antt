-- what a step tells of its seat, it tells of the pass that has the seat, and of the desk that has the table
pub mod Taken
-- what a number that was found in the table, or is stored there, says while the rule holds
pub mod Found
-- what a call finds of versions and pays: its first use of a lock, and the next version if that is owed
pub mod Versioning
-- what the answers of the calls say
pub mod Answering
-- what a step on locks leaves: the call, and every lock that was held
pub mod Staying
-- read bits given up, by rising lock
pub mod Unsharing
-- what judge comes to
pub mod Judging
-- what a call on values tells beside its step: that some good words fit the trace, and what a commit came to
pub mod Committing
