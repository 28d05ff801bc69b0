use Rattle.word_table.proofs.Common.{IsGood}
use Rattle.word_table.proofs.Runs.Drawing.{clock_counts_draws, only_draws_move_clock}
use Rattle.word_table.proofs.laws.every_draw.Goals as goal

pub returns-clause-counts : goal.returns-clause-counts
returns-clause-counts g c shape n base = clock_counts_draws (IsGood (g.S.Shape.word_count shape) (g.S.Shape.good shape)) n base

pub returns-clause-alone : goal.returns-clause-alone
returns-clause-alone g c shape n base = only_draws_move_clock (IsGood (g.S.Shape.word_count shape) (g.S.Shape.good shape)) n base
