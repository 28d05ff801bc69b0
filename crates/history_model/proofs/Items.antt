-- who wrote a lock at a version, and the values of a word
pub mod ItemValues
-- every list of the items in the order of their uses is legal
pub mod ItemOrders
-- an item at the end of an arrangement
pub mod ItemEnds
-- items that wrote nothing go out of an arrangement
pub mod ItemDrops
