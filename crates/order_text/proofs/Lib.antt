-- what several proofs import
pub mod Common
-- items of lists
pub mod Members
-- lists in an order, and that there is one such list of given items
pub mod Sorting
-- in which order resting orders are served
pub mod Serving
-- the trades down the partners, one by one
pub mod Trading
-- the orders of a book go by their numbers, and have their blocks
pub mod Rooms
-- best prices, and those of all orders
pub mod Prices
-- what rests after an order has entered
pub mod Entering
-- best prices are apart after each operation and each script
pub mod Apart
-- the ranges of operations are those of their lines, and what a text gives is an input
pub mod Inputs
-- the text of a header, one piece after another
pub mod Printing
-- orders are printed by their numbers
pub mod Closings
