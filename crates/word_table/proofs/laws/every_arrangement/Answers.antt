use Rattle.word_table.proofs.Common.{IsGood}
use Rattle.word_table.proofs.Runs.Later.{entries_stand, later_stand_behind}
use Rattle.word_table.proofs.Runs.Meetings.{is_arranged, reads_one_state}
use Rattle.word_table.proofs.Runs.Recorded.{entries_stay}
use Rattle.word_table.proofs.laws.every_arrangement.Goals as goal

pub returns-clause-arranged : goal.returns-clause-arranged
returns-clause-arranged g c shape n base = is_arranged (IsGood (g.S.Shape.word_count shape) (g.S.Shape.good shape)) n base

pub returns-clause-opacity : goal.returns-clause-opacity
returns-clause-opacity g c shape n base = reads_one_state (IsGood (g.S.Shape.word_count shape) (g.S.Shape.good shape)) n base

pub returns-clause-stays : goal.returns-clause-stays
returns-clause-stays g c shape n base = entries_stay (IsGood (g.S.Shape.word_count shape) (g.S.Shape.good shape)) n base

pub returns-clause-entries : goal.returns-clause-entries
returns-clause-entries g c shape n base = entries_stand (IsGood (g.S.Shape.word_count shape) (g.S.Shape.good shape)) n base

pub returns-clause-later : goal.returns-clause-later
returns-clause-later g c shape n base = later_stand_behind (IsGood (g.S.Shape.word_count shape) (g.S.Shape.good shape)) n base
