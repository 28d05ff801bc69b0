use Rattle.txn_cells.proofs.Values.{cell_within}
use Rattle.txn_cells.proofs.array.CellArray.lies_within.Goals as goal

pub returns : goal.returns
returns g c =
    let array = c.args.self.now in
    cell_within g.T.Coded g.met.T.Coded.count g.met.T.Coded.one array.at array.len array.sizes.some c.args.words.now c.requires.cells c.args.i c.requires.place
