use Rattle.values_rule.proofs.CutsAndJoins.Joins.{join_seats_values}
use Rattle.values_rule.proofs.laws.join_seats.Goals as goal

pub returns : goal.returns
returns g c = λ shape. join_seats_values (g.S.Shape.good shape)
