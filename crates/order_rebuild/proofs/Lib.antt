-- what several proofs import
pub mod Common
-- who stands before a place of a line
pub mod Befores
-- the items that may come, by the marks of what is left
pub mod Open
-- what is placed, by the versions of locks and their readers
pub mod TalliedItems
-- how many uses are such
pub mod UseCounts
-- on an orderable list some item may always come, and the order is one alone
pub mod Stuck
-- the marks of what is left
pub mod Marks
-- the entries in the order of their calls are in the order of their uses
pub mod Legal
-- where items wait, as one of them settles and as a line goes on
pub mod Waits
-- the items that wait nowhere are those that may come, and the list gives the one of the least caller
pub mod Come
-- places in lines: one item has one place in a line, and the order of places is the order of uses
pub mod Codes
-- the lines that are made of turns in order
pub mod Rows
-- the lists that lines are made of, one place more
pub mod Makes
-- what loops over uses keep
pub mod Loops
-- the state before the first item
pub mod Begin
-- sums over the uses of calls
pub mod Counts
-- the lanes of a list
pub mod Callers
-- uses before others
pub mod Due
-- the lanes, one item less
pub mod Steps
-- a list that stands in its order
pub mod Stands
-- versions followed and readers tallied
pub mod ByTallies
-- the locks go on by one use more
pub mod Follows
-- what is known of the first items of lanes
pub mod Knows
-- one item more, by the tallies
pub mod Placings
