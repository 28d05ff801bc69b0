-- callers that are gathered one script at a time
pub mod Gathering
-- the callers of a text's scripts are those that are gathered one script at a time
pub mod Grouping
-- callers by their numbers
pub mod Besides
-- callers with one more script, and the scripts of callers
pub mod Submitting
-- what is wrong with a line between scripts, by the callers before it
pub mod Outside
