-- the words of empty books: zeros, but for the list of the free blocks
pub mod Emptied
-- the size of the books of tests
pub mod Small
-- the list of the free blocks, gone through, and laid anew beside parts that stand
pub mod Relaid
