-- views by their places
pub mod Places
-- how the views change: by a step of one seat, by the cut of one in two, and by the join of two
pub mod Changes
