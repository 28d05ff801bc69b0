-- what a commit, kept or not, leaves of words, entries and numbers of calls
pub mod Recording
-- a commit keeps the value invariant
pub mod Commits
-- a load with which an attempt gives way keeps it
pub mod Giving
-- a load of a lock's version keeps it
pub mod VersionLoads
-- a store of a lock's version keeps it
pub mod VersionStores
-- a call that is given up keeps the value invariant
pub mod GivingUp
-- a load of a value, a store and its undoing keep it
pub mod ValueKinds
-- the beginning of a call keeps it
pub mod Begins
-- a step on a word of another rule keeps it
pub mod Same
-- a seat that makes no attempt and gives up locks keeps it, and so does a call that makes another attempt
pub mod Quiet
-- the kinds of step keep the lock invariant: none is on a word of a lock
pub mod LocksStand
-- the kinds of step on locks, and the end of a call, keep the value invariant
pub mod LockKinds
