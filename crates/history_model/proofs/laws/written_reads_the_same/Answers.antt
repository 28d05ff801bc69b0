use Rattle.history_model.proofs.Traces.MarkLaws.{written_reads_the_same}
use Rattle.history_model.proofs.laws.written_reads_the_same.Goals as goal

pub returns : goal.returns
returns c = written_reads_the_same
