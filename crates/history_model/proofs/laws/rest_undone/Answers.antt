use Rattle.history_model.proofs.Traces.MarkLaws.{rest_undone}
use Rattle.history_model.proofs.laws.rest_undone.Goals as goal

pub returns : goal.returns
returns c = rest_undone
