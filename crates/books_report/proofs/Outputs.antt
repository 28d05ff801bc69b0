-- the text of replies and of journal lines, one piece after another
pub mod Journals
-- the books at the end of a journal, and scripts for them
pub mod Closing
-- the lines of outputs: each is one line, and joined they are the text
pub mod Rows
