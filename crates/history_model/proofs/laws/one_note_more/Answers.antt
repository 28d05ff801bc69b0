use Rattle.history_model.proofs.Traces.MarkLaws.{one_note_more}
use Rattle.history_model.proofs.laws.one_note_more.Goals as goal

pub returns : goal.returns
returns c = one_note_more
