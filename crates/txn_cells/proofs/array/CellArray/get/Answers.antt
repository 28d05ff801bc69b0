use Rattle.txn_cells.proofs.Common.{[], ◌∷◌, take, sym, ap, ◌∙◌, Get, IsOfCell}
use Rattle.txn_cells.proofs.Arrays.{value_found, gets, cells_after}
use Rattle.txn_cells.proofs.array.CellArray.get.Goals as goal

pub unreachable-requires : goal.unreachable-requires
unreachable-requires g c =
    let code = g.T.Coded in
    let array = c.args.self.now in
    let read = c.in_ok-words.ensures in
    let it = value_found g.W.Words g.W.Shape.Shape code array.at array.len g.met.T.Coded.count g.met.T.Coded.one
    c.args.w.now c.read_cell.new.w c.args.i c.requires.place {IsSeen =
    λ _. IsOfCell g.T.Coded.WORDS array.at c.args.i} (take code.WORDS c.in_ok-words.words) read.looks
    read.goes_on.shape c.requires.cells (g.met.W.Words.fits c.read_cell.new.w read.goes_on.sound) in
    c.in-None.ensures.none it.0 it.1 (it.2 ∙ ap (λ n. take n c.in_ok-words.words) (sym c.WORDS.ensures))

typed : goal.returns-clause-typed
typed g c =
    let array = c.args.self.now in
    let read = c.in_ok-words.ensures in
    let some = c.in-Some.ensures.some in
    gets g.W.Words g.W.Shape.Shape g.T.Coded array.at array.len g.met.T.Coded.count g.met.T.Coded.one c.args.w.now
    c.read_cell.new.w c.args.i c.requires.place {IsSeen = λ _. IsOfCell g.T.Coded.WORDS array.at c.args.i}
    (take g.T.Coded.WORDS c.in_ok-words.words) read.looks c.in-Some.x some.0 (some.1 ∙ ap (λ n. take n c.in_ok-words.words) c.WORDS.ensures)

pub returns-clause-typed : goal.returns-clause-typed
returns-clause-typed g c = typed g c

pub returns-clause-cells : goal.returns-clause-cells
returns-clause-cells g c =
    let array = c.args.self.now in
    let read = c.in_ok-words.ensures in
    cells_after g.W.Words g.W.Shape.Shape g.T.Coded array.at array.len c.args.w.now c.read_cell.new.w
    (Get c.args.i c.in-Some.x ∷ []) read.goes_on.shape read.goes_on.begins c.requires.cells (typed g c)
