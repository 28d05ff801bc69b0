-- lists of entries whose keys a rising function changes to numbers, and two lists of entries in one
pub mod Keyed
-- what the chains hold, by keys: the price of each instrument, and each position
pub mod Chained
-- a price or a position that is put or taken out, in what the chains hold
pub mod ChainedChanges
-- the parts of books lie apart, and a block is in one of them alone
pub mod Apart
-- a change of one part leaves the others
pub mod Changes
-- the books that words stand for are one, and use the blocks that are neither free nor in hand
pub mod Whole
-- what words that hold the parts of some books say of each map, and what an insert into the tree leaves
pub mod Parts
-- what words that stand for books say of each part, at the shape's sizes, and whether a block is left
pub mod States
-- each account stands in the block where it stood, while the chains change
pub mod Standing
