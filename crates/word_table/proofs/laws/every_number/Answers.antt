use Rattle.word_table.proofs.Common.{IsGood}
use Rattle.word_table.proofs.Runs.Counted.{numbers_stay_below}
use Rattle.word_table.proofs.laws.every_number.Goals as goal

pub returns : goal.returns
returns g c shape n base = numbers_stay_below (IsGood (g.S.Shape.word_count shape) (g.S.Shape.good shape)) n base
