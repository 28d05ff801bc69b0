-- what several proofs import
pub mod Common
-- what a write at the end of a trace leaves
pub mod Steps
-- what the reads and writes of a job tell, one after another: what every job cites
pub mod JobLaws
-- what one word or two that a job reads first and writes then tell
pub mod FirstWords
-- from what a call on words did to what holds after it
pub mod CallLaws
-- words in a plain list, after one event more
pub mod Listed
-- the frame of a call: step by step, and what it says of the words that the call may not write
pub mod FrameLaws
-- what a call reads, step by step
pub mod ReadLaws
-- how what was seen grows read by read, and what a later call's relation says from an earlier state on
pub mod Looks
-- going back to a mark, one write after another
pub mod GoingBack
