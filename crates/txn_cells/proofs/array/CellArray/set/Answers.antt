use Rattle.txn_cells.proofs.Common.{[], ◌∷◌, take, Set, map_ok}
use Rattle.std.proofs.Common.{rules}
use Rattle.txn_cells.proofs.Arrays.{sets, cells_after}
use Rattle.txn_cells.proofs.array.CellArray.set.Goals as goal

pub returns-clause-typed : goal.returns-clause-typed
returns-clause-typed g c =
    let code = g.T.Coded in
    let array = c.args.self.now in
    map_ok c.write_cell.result (λ puts.
    sets g.W.Words g.W.Shape.Shape code array.at array.len g.met.T.Coded.count g.met.T.Coded.one c.args.w.now
    c.write_cell.new.w c.args.i c.requires.place array.sizes.some (take c.WORDS.result c.spelled-words.result) puts
    c.args.value.now c.tell.ensures.value (search rules)) c.write_cell.ensures.puts

pub returns-clause-cells : goal.returns-clause-cells
returns-clause-cells g c =
    let code = g.T.Coded in
    let array = c.args.self.now in
    map_ok c.write_cell.result (λ does.
    cells_after g.W.Words g.W.Shape.Shape code array.at array.len c.args.w.now c.write_cell.new.w
    (Set c.args.i c.args.value.now ∷ []) c.write_cell.ensures.goes_on.shape c.write_cell.ensures.goes_on.begins c.requires.cells does)
    (returns-clause-typed g c)
