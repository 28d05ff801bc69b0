-- cells whose keys rise: their parts, and that a key and a block stand once among them
pub mod Rising
-- trees and paths in one word list: what stays of them while words stay, and how often a block stands in them
pub mod Trees
-- a place in the map's tree, and what the whole says there
pub mod Places
-- a tree hung at the end of a path, by writing the word there
pub mod Hanging
-- different keys have different priorities, since the multiplier has an inverse
pub mod Priorities
-- the entries of the map, in the order of their keys: the tree's cells from left to right
pub mod Entries
-- how many blocks a map uses
pub mod Numbers
