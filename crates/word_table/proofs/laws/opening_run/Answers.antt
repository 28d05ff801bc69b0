use Rattle.word_table.proofs.Common.{IsGood}
use Rattle.word_table.proofs.Runs.RunLaws.{opening_run}
use Rattle.word_table.proofs.laws.opening_run.Goals as goal

pub returns : goal.returns
returns g c shape n base state o = opening_run (IsGood (g.S.Shape.word_count shape) (g.S.Shape.good shape)) n base state o
