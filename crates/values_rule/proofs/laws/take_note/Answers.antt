use Rattle.values_rule.proofs.CutsAndJoins.Cuts.{take_note_values}
use Rattle.values_rule.proofs.laws.take_note.Goals as goal

pub returns : goal.returns
returns g c = λ shape. take_note_values (g.S.Shape.good shape)
