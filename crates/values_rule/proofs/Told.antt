-- whether a list of items, or of views, has one, and of what entry or attempt it is
pub mod ItemsIn
-- the last call of each seat among entries
pub mod Knowing
-- which locks are owed
pub mod Owing
-- the newest value of each word
pub mod Newest
-- the uses of an attempt, and the item that they make
pub mod Uses
-- phases
pub mod Excludes
-- what the invariant says to a seat in a call
pub mod Seeing
-- what a running attempt finds: a word that it may use stands as its own events and the newest values leave it
pub mod Current
