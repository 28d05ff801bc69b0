-- what several proofs import
pub mod Common
-- how far a search along a chain has come
pub mod Passed
-- chains of cells in one word list
pub mod Cells
-- the steps of a search, in one word list
pub mod Steps
-- what a call that only reads learns, of every fitting state at once
pub mod Looks
-- chains whose words stay
pub mod Stands
-- what an insert leaves
pub mod Changes
-- a block put in front of its bucket's chain
pub mod Fronts
-- what an insert of a new key leads to, writes and reads, in every fitting state at once
pub mod Inserts
-- a cell cut out of its chain
pub mod Cuts
-- what a removal leads to, writes and reads, in every fitting state at once
pub mod Removals
-- in one word list the map is one
pub mod OneMap
-- how many blocks a map uses: the cells of all buckets in one list
pub mod Numbers
