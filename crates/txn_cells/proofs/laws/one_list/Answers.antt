use Rattle.txn_cells.proofs.Values.{one_values}
use Rattle.txn_cells.proofs.laws.one_list.Goals as goal

pub returns : goal.returns
returns g c at len s xs ys v w = one_values g.T.Coded g.met.T.Coded.count g.met.T.Coded.one at len s xs ys v w
