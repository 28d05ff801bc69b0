-- what several proofs import
pub mod Common
-- sums over all views of a table, if one view changes, and if one view has all
pub mod Sums
-- each kind of step keeps the rule of a deque
pub mod Steps
-- a deque in each state to which its steps lead
pub mod Reached
-- lists by their places: one item changes, or one more comes
pub mod Places
-- one pass changes among those of a worker
pub mod Fitting
-- deques are made, callers are dealt to them in turn, and passes are handed out
pub mod Dealt
-- one worker's passes are given back, from the last deque on
pub mod Returning
-- all rows are given back, and all deques are emptied
pub mod Draining
-- the queues of all workers before they start, and what was dealt to all deques together
pub mod Opening
-- how many scripts one caller has
pub mod Rooms
-- what a loop over a list's items has given, and what is left
pub mod Yielded
-- the owners, one after another, and the workers that get them
pub mod Seating
-- a sum over what stands at places, each of which stands there once
pub mod Arranged
-- a call of a pass, and its item
pub mod Making
-- one script more of a caller, and one caller more
pub mod Running
-- the interpreter, run down the items of a day
pub mod Replayed
-- what all workers did, put together: the day
pub mod Gathered
-- of each caller all items are of one seat
pub mod Wholes
-- all shares of a day, put together
pub mod Ended
-- what the workers leave, and the last round
pub mod Ending
-- workers that were lent their passes, and what all of them did
pub mod Lent
