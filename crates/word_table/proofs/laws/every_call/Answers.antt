use Rattle.word_table.proofs.Common.{IsGood}
use Rattle.word_table.proofs.Runs.Meetings.{restarts_few}
use Rattle.word_table.proofs.Runs.Stamped.{stamps_are_kept}
use Rattle.word_table.proofs.laws.every_call.Goals as goal

pub returns-clause-restarts : goal.returns-clause-restarts
returns-clause-restarts g c shape n base = restarts_few (IsGood (g.S.Shape.word_count shape) (g.S.Shape.good shape)) n base

pub returns-clause-stamps : goal.returns-clause-stamps
returns-clause-stamps g c shape n base = stamps_are_kept (IsGood (g.S.Shape.word_count shape) (g.S.Shape.good shape)) n base
