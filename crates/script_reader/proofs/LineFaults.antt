-- lines by their kinds, and what is known of a line that no reason applies to
pub mod LineKinds
-- why a line of books is refused, by its kind
pub mod Refusing
-- the operations of lines
pub mod Operating
-- what is wrong with a line of a script, by its form
pub mod RowFaults
