-- The cuts of a view and the joins of two keep what holds of a table, in its four parts.
use Rattle.word_table.proofs.Common.{ℕ, List, left_by_note, note_of, MayMeetNote, MayJoinSeats, KeepsJoin, MaySplitSeat, left_by_split, given_by_split, gains}
use Rattle.word_table.proofs.Common.{after_note, after_joining, IsSound}
use Rattle.locks_rule.specs.Joins.{MayTakeNote}
use Rattle.locks_rule.specs.Splits.{KeepsSplit}
use Rattle.locks_rule.proofs.Splitting.{split_seat_keeps, take_note_keeps}
use Rattle.values_rule.proofs.CutsAndJoins.Cuts.{split_seat_values, take_note_values}
use Rattle.values_rule.proofs.CutsAndJoins.Joins.{meet_note_values, join_seats_values}
use Rattle.stamps_rule.proofs.Cuts.{split_seat_stamps, take_note_stamps}
use Rattle.stamps_rule.proofs.Joins.{meets_note, joins_seats}
use Rattle.locks_rule.proofs.Joining.{meet_note_keeps, join_seats_keeps}
use Rattle.word_table.proofs.Kept.Bounded.{split_seat_bounded, take_note_bounded, meet_note_bounded, join_seats_bounded}

pub split_seat_sound : (good : List ℕ → Type 0) (n : ℕ) (base : List ℕ) (j : ℕ) → KeepsSplit (IsSound good n base) (MaySplitSeat j) left_by_split given_by_split
split_seat_sound good n base j ws vs id v s me may = record {
  locks = split_seat_keeps n base j ws vs id v s.locks me may;
  values = split_seat_values good j n base ws vs id v s.locks s.values me may;
  stamps = split_seat_stamps j n base ws vs id v s.locks s.stamps me may;
  versions = split_seat_bounded n ws vs id v s.versions me;
}

pub take_note_sound : (good : List ℕ → Type 0) (n : ℕ) (base : List ℕ) → KeepsSplit (IsSound good n base) MayTakeNote left_by_note note_of
take_note_sound good n base ws vs id v s me may = record {
  locks = take_note_keeps n base ws vs id v s.locks me may;
  values = take_note_values good n base ws vs id v s.locks s.values me may;
  stamps = take_note_stamps n base ws vs id v s.locks s.stamps me may;
  versions = take_note_bounded n ws vs id v s.versions me;
}

pub meet_note_sound : (good : List ℕ → Type 0) (n : ℕ) (base : List ℕ) → KeepsJoin (IsSound good n base) MayMeetNote after_note
meet_note_sound good n base ws vs id other v w s ne me it may = record {
  locks = meet_note_keeps n base ws vs id other v w s.locks ne me it may;
  values = meet_note_values good n base ws vs id other v w s.locks s.values ne me it may;
  stamps = meets_note n ws vs id other v w s.stamps ne me it may.phase may.note_phase (gains v.seen w.seen) may.unnumbered;
  versions = meet_note_bounded n ws vs id other v w s.versions ne me it;
}

pub join_seats_sound : (good : List ℕ → Type 0) (n : ℕ) (base : List ℕ) → KeepsJoin (IsSound good n base) MayJoinSeats after_joining
join_seats_sound good n base ws vs id other v w s ne me it may = record {
  locks = join_seats_keeps n base ws vs id other v w s.locks ne me it may;
  values = join_seats_values good n base ws vs id other v w s.locks s.values ne me it may;
  stamps = joins_seats n ws vs id other v w s.stamps ne me it may.phase may.other_phase (gains v.seen w.seen) may;
  versions = join_seats_bounded n ws vs id other v w s.versions ne me it;
}
