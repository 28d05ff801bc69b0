use Rattle.word_table.proofs.Common.{IsGood}
use Rattle.word_table.proofs.Kept.KeptKinds.{sound_kept}
use Rattle.word_table.proofs.laws.every_step.Goals as goal

pub returns : goal.returns
returns g c shape n base step = sound_kept (IsGood (g.S.Shape.word_count shape) (g.S.Shape.good shape)) n base step
