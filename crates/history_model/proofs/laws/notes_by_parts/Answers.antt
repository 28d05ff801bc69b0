use Rattle.history_model.proofs.Traces.MarkLaws.{notes_by_parts, notes_counted}
use Rattle.history_model.proofs.laws.notes_by_parts.Goals as goal

pub returns : goal.returns
returns c = record { parts = notes_by_parts; counted = notes_counted }
