use Rattle.word_table.proofs.Common.{IsGood}
use Rattle.word_table.proofs.Runs.RunLaws.{run_sound}
use Rattle.word_table.proofs.laws.every_run.Goals as goal

pub returns : goal.returns
returns g c shape n base run fine r = run_sound (IsGood (g.S.Shape.word_count shape) (g.S.Shape.good shape)) n base run fine r
