-- what several proofs import
pub mod Common
-- the set of a list's blocks
pub mod Sets
-- the free lists, as blocks are taken, given back and laid
pub mod FreeLists
-- what all maps on blocks share
pub mod Maps
-- a block is in one of an arena's parts alone
pub mod Apart
-- what a later call left, said at the shape that an earlier call began with
pub mod Since
