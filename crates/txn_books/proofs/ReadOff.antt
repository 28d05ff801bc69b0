-- entries that are put into a map one after another
pub mod Adding
-- trees and chains that are walked block by block
pub mod Walked
-- a tree whose nodes are visited from the top down, with the names of the subtrees that are left on a list
pub mod Visited
-- books to which one entry after another is added
pub mod Filling
-- books to which the items of a ring are added, front first
pub mod Queued
-- from empty books to those that words stand for: accounts, prices, positions, and margin calls
pub mod Stages
-- a walk over the entries of a map, from key to key
pub mod Walking
-- books that grow entry by entry, in the order of a walk over others
pub mod Growing
