use Rattle.word_table.proofs.Common.{IsGood}
use Rattle.word_table.proofs.Runs.Dealing.{seats_are_dealt}
use Rattle.word_table.proofs.laws.every_deal.Goals as goal

pub returns : goal.returns
returns g c shape n base = seats_are_dealt (IsGood (g.S.Shape.word_count shape) (g.S.Shape.good shape)) n base
