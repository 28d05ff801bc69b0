-- how far a search for a key has come
pub mod Passed
-- the steps of a search down the tree, in one word list
pub mod SearchSteps
-- the steps of the search for the first node from a key on, in one word list
pub mod FirstSteps
-- what a search learns of every fitting state at once
pub mod SearchCalls
-- the words that a search reads are the root and words of the tree's own blocks
pub mod Links
-- what a search that found the key says of the map, and which words it reads
pub mod Gets
