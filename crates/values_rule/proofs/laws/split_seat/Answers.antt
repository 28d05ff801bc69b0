use Rattle.values_rule.proofs.CutsAndJoins.Cuts.{split_seat_values}
use Rattle.values_rule.proofs.laws.split_seat.Goals as goal

pub returns : goal.returns
returns g c = λ shape. split_seat_values (g.S.Shape.good shape)
