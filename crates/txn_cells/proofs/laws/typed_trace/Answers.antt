use Rattle.txn_cells.proofs.Calls.{calls_do}
use Rattle.txn_cells.proofs.laws.typed_trace.Goals as goal

pub returns : goal.returns
returns g c at len old calls are s fit values v = (calls_do g.T.Coded at len _ _ old calls are s fit).each values v
