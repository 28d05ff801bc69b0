-- from what a call on books answered and did to what holds after it
pub mod Calls
-- what an insert into a map says of books
pub mod Putting
-- what calls on the tree of accounts say of books
pub mod Accounts
-- what calls on the queue say of books
pub mod MarginCalls
-- what calls on the chains say of prices and positions
pub mod Holdings
-- several looks one after another: what the books say all that while, since none changes them
pub mod Looking
-- calls on books one after another, first looks and then changes, and what an operation that makes them comes to
pub mod Turning
-- what each operation comes to, from what was found of the books
pub mod Operating
-- the operations of a script one after another on words that stand for books, and what they come to together
pub mod Scripted
-- a trade, from what was found of both sides
pub mod TradeSides
-- what one call on words in a plain list leaves of books that the words stood for
pub mod Built
-- a key that was absent, put into a block that was taken out of its list before
pub mod Taken
