use Rattle.word_table.proofs.Common.{IsGood}
use Rattle.word_table.proofs.Kept.KeptChanges.{split_seat_sound, take_note_sound}
use Rattle.word_table.proofs.laws.every_cut.Goals as goal

pub returns-clause-seats : goal.returns-clause-seats
returns-clause-seats g c shape n base j = split_seat_sound (IsGood (g.S.Shape.word_count shape) (g.S.Shape.good shape)) n base j

pub returns-clause-notes : goal.returns-clause-notes
returns-clause-notes g c shape n base = take_note_sound (IsGood (g.S.Shape.word_count shape) (g.S.Shape.good shape)) n base
