-- going round the lists: how far that of a block is from that of a number
pub mod Rounds
-- the free lists after a write
pub mod Lists
-- what holds in every fitting state at once, as blocks are taken and given back
pub mod Traces
-- the search for the first list that is not empty, and what a take does, in every fitting state at once
pub mod Takings
-- free blocks that are laid into their lists, from the last on
pub mod Laid
-- all blocks of an arena, laid by rising number
pub mod AllLaid
-- what a call on the free lists keeps, said in wider words
pub mod Wider
