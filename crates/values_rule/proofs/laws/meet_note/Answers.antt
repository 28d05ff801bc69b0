use Rattle.values_rule.proofs.CutsAndJoins.Joins.{meet_note_values}
use Rattle.values_rule.proofs.laws.meet_note.Goals as goal

pub returns : goal.returns
returns g c = λ shape. meet_note_values (g.S.Shape.good shape)
