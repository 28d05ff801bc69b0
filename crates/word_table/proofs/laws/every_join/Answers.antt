use Rattle.word_table.proofs.Common.{IsGood}
use Rattle.word_table.proofs.Kept.KeptChanges.{meet_note_sound, join_seats_sound}
use Rattle.word_table.proofs.laws.every_join.Goals as goal

pub returns-clause-notes : goal.returns-clause-notes
returns-clause-notes g c shape n base = meet_note_sound (IsGood (g.S.Shape.word_count shape) (g.S.Shape.good shape)) n base

pub returns-clause-seats : goal.returns-clause-seats
returns-clause-seats g c shape n base = join_seats_sound (IsGood (g.S.Shape.word_count shape) (g.S.Shape.good shape)) n base
