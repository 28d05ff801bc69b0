-- jobs, lists of jobs, clients and their table
pub mod Prelude
-- the maps and the blocks that they share
pub mod Maps
-- the queue
pub mod Rings
