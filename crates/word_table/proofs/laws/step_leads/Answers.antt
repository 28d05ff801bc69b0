use Rattle.word_table.proofs.Common.{IsGood}
use Rattle.std.specs.Prelude.{[]}
use Rattle.word_table.proofs.Runs.RunLaws.{step_leads}
use Rattle.word_table.proofs.laws.step_leads.Goals as goal

pub returns : goal.returns
returns g c shape state step place view knows may = step_leads (IsGood (g.S.Shape.word_count shape) (g.S.Shape.good shape)) 0 [] state step place view knows may
