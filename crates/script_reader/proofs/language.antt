-- callers that are gathered one script at a time
pub mod Grouped
-- texts of languages whose scripts are lists of operations
pub mod Listed
