-- keys in order: in a list in order each is below those behind it
pub mod Keys
-- what tests of numbers, and of what was found, say
pub mod Comparing
-- what ties a `BTreeMap`, by its entries, to the finite map that the entries make
pub mod Trees
-- the first entry above a key
pub mod Above
-- changes of a map, and how they are put into it
pub mod Changes
-- the entries of a finite map: what holds of them all, and sums over them
pub mod Entries
