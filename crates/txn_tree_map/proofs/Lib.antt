-- what several proofs import
pub mod Common
-- how far a search for the first node from a key on, and a sum over keys, have come
pub mod Summed
-- the whole tree, around one that hangs at the end of a path
pub mod Plugs
-- what one word list holds: cells, trees, places in them
pub mod Held
-- the searches down the tree: for a key, and for the first node from a key on
pub mod Searches
-- the map as a whole: it is one, it stands while its words stay, and what it is after a change at a place
pub mod Maps
-- a key and its value put in: the place where its node hangs, and the tree below parted around it
pub mod Inserts
-- a key taken out: the two trees below it joined
pub mod Removals
-- the keys in their order: the first from a key on, walks and sums
pub mod InOrder
