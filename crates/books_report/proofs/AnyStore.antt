-- a run of operations, from any of them on
pub mod Runs
-- the text of headers and of journal lines, one piece after another
pub mod Printing
-- what each operation keeps of a state, scripts keep
pub mod Kept
-- a fault of a text has one of five reasons
pub mod Reasons
