use Rattle.word_table.proofs.Common.{IsGood}
use Rattle.word_table.proofs.Runs.Writing.{have_no_common_word, writes_own_and_asked}
use Rattle.word_table.proofs.laws.every_write.Goals as goal

pub returns-clause-own : goal.returns-clause-own
returns-clause-own g c shape n base = writes_own_and_asked (IsGood (g.S.Shape.word_count shape) (g.S.Shape.good shape)) n base

pub returns-clause-apart : goal.returns-clause-apart
returns-clause-apart g c = have_no_common_word
