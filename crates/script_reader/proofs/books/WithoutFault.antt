-- lines that have no fault
pub mod NoFault
-- the lines of an input have no fault
pub mod Faultless
-- the lines of books in range have no fault
pub mod BooksFaultless
-- the lines of scripts have no fault
pub mod ScriptsFaultless
