use Rattle.txn_cells.proofs.Common.{◌+◌, ◌*◌, [], ◌∷◌, take, sym, ap, ◌∙◌, subst, begins_trans, LeadsTo, InEachState, some_at, Get, Set, AreCells, IsOfCell}
use Rattle.txn_cells.proofs.Common.{map_ok, PutsWords}
use Rattle.txn_cells.proofs.Arrays.{value_found, sets, cells_after, does_next}
use Rattle.txn_cells.proofs.Swapping.{cells_looked, Crossed, crossed, either_written, either_read}
use Rattle.txn_cells.proofs.array.CellArray.swap.Given.{Over}
use Rattle.txn_cells.proofs.array.CellArray.swap.Goals as goal

pub read_cell-requires-2-clause-cells : goal.read_cell-requires-2-clause-cells
read_cell-requires-2-clause-cells g c =
    cells_looked g.W.Words g.W.Shape.Shape g.T.Coded c.args.self.now.at c.args.self.now.len c.args.w.now
    c.read_cell.new.w c.in_ok-first.ensures.goes_on.shape c.requires.cells c.in_ok-first.ensures.looks

pub write_cell-requires-clause-cells : goal.write_cell-requires-clause-cells
write_cell-requires-clause-cells g c =
    let array = c.args.self.now in
    let first : InEachState g.W.Words g.W.Shape.Shape c.read_cell.new.w (AreCells g.T.Coded array.at array.len) =
    cells_looked g.W.Words g.W.Shape.Shape g.T.Coded array.at array.len c.args.w.now c.read_cell.new.w
    c.in_ok-first.ensures.goes_on.shape c.requires.cells c.in_ok-first.ensures.looks in
    cells_looked g.W.Words g.W.Shape.Shape g.T.Coded array.at array.len c.read_cell.new.w c.read_cell-2.new.w
    c.in_ok-second.ensures.goes_on.shape first c.in_ok-second.ensures.looks

pub write_cell-requires-2-clause-cells : goal.write_cell-requires-2-clause-cells
write_cell-requires-2-clause-cells g c =
    let code = g.T.Coded in
    let array = c.args.self.now in
    let spelled = take c.WORDS.result c.in_ok-second.second in
    let first = c.in_ok-first.ensures in
    let second = c.in_ok-second.ensures in
    let write = c.in_ok-write_cell.ensures in
    let cells : InEachState g.W.Words g.W.Shape.Shape c.read_cell.new.w (AreCells code array.at array.len) =
    cells_looked g.W.Words g.W.Shape.Shape code array.at array.len c.args.w.now c.read_cell.new.w first.goes_on.shape c.requires.cells first.looks in
    let still : InEachState g.W.Words g.W.Shape.Shape c.read_cell-2.new.w (AreCells code array.at array.len) =
    cells_looked g.W.Words g.W.Shape.Shape code array.at array.len c.read_cell.new.w c.read_cell-2.new.w second.goes_on.shape cells second.looks in
    let value = value_found g.W.Words g.W.Shape.Shape code array.at array.len g.met.T.Coded.count g.met.T.Coded.one
    c.read_cell.new.w c.read_cell-2.new.w c.args.j c.requires.places.1
    {IsSeen = λ _. IsOfCell code.WORDS array.at c.args.j} (take code.WORDS c.in_ok-second.second) second.looks
    second.goes_on.shape cells (g.met.W.Words.fits c.read_cell-2.new.w second.goes_on.sound) in
    cells_after g.W.Words g.W.Shape.Shape code array.at array.len c.read_cell-2.new.w c.write_cell.new.w
    (Set c.args.i value.0 ∷ []) write.goes_on.shape write.goes_on.begins still
    (sets g.W.Words g.W.Shape.Shape code array.at array.len g.met.T.Coded.count g.met.T.Coded.one c.read_cell-2.new.w
    c.write_cell.new.w c.args.i c.requires.places.0 array.sizes.some spelled write.puts
    value.0 value.1 (value.2 ∙ ap (λ n. take n c.in_ok-second.second) (sym c.WORDS.ensures)))

-- the second cell's words were put into the first
crossing : (g : Over) (c : goal.After-write_cell-2 g)
    → Crossed g.W.Words g.W.Shape.Shape g.T.Coded c.args.self.now.at c.args.self.now.len g.met.T.Coded.count g.met.T.Coded.one c.args.self.now.sizes.some
    c.args.w.now c.read_cell.new.w c.read_cell-2.new.w c.write_cell.new.w c.args.i c.args.j
    (take g.T.Coded.WORDS c.in_ok-first.first) (take g.T.Coded.WORDS c.in_ok-second.second)
    (λ _. IsOfCell g.T.Coded.WORDS c.args.self.now.at c.args.i) (λ _. IsOfCell g.T.Coded.WORDS c.args.self.now.at c.args.j)
crossing g c =
    let array = c.args.self.now in
    let first = c.in_ok-first.ensures in
    let second = c.in_ok-second.ensures in
    let write = c.in_ok-write_cell.ensures in
    crossed g.W.Words g.W.Shape.Shape g.T.Coded array.at array.len g.met.T.Coded.count g.met.T.Coded.one array.sizes.some
    c.args.w.now c.read_cell.new.w c.read_cell-2.new.w c.write_cell.new.w c.args.i c.args.j
    (take g.T.Coded.WORDS c.in_ok-first.first) (take g.T.Coded.WORDS c.in_ok-second.second)
    (λ _. IsOfCell g.T.Coded.WORDS array.at c.args.i) (λ _. IsOfCell g.T.Coded.WORDS array.at c.args.j)
    c.requires.places.0 c.requires.places.1 c.requires.cells first.goes_on.shape second.goes_on.shape
    write.goes_on.shape second.goes_on.begins write.goes_on.begins
    (g.met.W.Words.fits c.read_cell.new.w first.goes_on.sound) (g.met.W.Words.fits c.read_cell-2.new.w second.goes_on.sound) first.looks second.looks
    (subst (λ n. LeadsTo g.W.Words g.W.Shape.Shape c.read_cell-2.new.w c.write_cell.new.w
    (PutsWords (array.at + c.args.i * g.T.Coded.WORDS) (take n c.in_ok-second.second))) c.WORDS.ensures write.puts)

pub returns-clause-typed : goal.returns-clause-typed
returns-clause-typed g c =
    let array = c.args.self.now in
    let cross = crossing g c in
    let first = c.in_ok-first.ensures.goes_on in
    let second = c.in_ok-second.ensures.goes_on in
    let write = c.in_ok-write_cell.ensures.goes_on in
    let last = c.write_cell-2.ensures in
    map_ok c.write_cell-2.result (λ puts. (
      cross.former,
      cross.latter,
      does_next g.W.Words g.W.Shape.Shape g.T.Coded array.at array.len c.args.w.now c.write_cell.new.w
          c.write_cell-2.new.w (Get c.args.i cross.former ∷ Get c.args.j cross.latter ∷ Set c.args.i cross.latter ∷ []) (Set c.args.j cross.former ∷ [])
          (write.shape ∙ second.shape ∙ first.shape) last.goes_on.begins cross.done
          (sets g.W.Words g.W.Shape.Shape g.T.Coded array.at array.len g.met.T.Coded.count g.met.T.Coded.one
          c.write_cell.new.w c.write_cell-2.new.w c.args.j c.requires.places.1 array.sizes.some (take c.WORDS-2.result c.in_ok-first.first) puts
          cross.former cross.is_value (cross.spells ∙ ap (λ n. take n c.in_ok-first.first) (sym c.WORDS-2.ensures))),
    )) last.puts

pub returns-clause-cells : goal.returns-clause-cells
returns-clause-cells g c =
    let array = c.args.self.now in
    let first = c.in_ok-first.ensures.goes_on in
    let second = c.in_ok-second.ensures.goes_on in
    let write = c.in_ok-write_cell.ensures.goes_on in
    let last = c.write_cell-2.ensures.goes_on in
    map_ok c.write_cell-2.result (λ does.
    cells_after g.W.Words g.W.Shape.Shape g.T.Coded array.at array.len c.args.w.now c.write_cell-2.new.w _ (last.shape
    ∙ write.shape ∙ second.shape ∙ first.shape)
    (begins_trans _ _ _ first.begins (begins_trans _ _ _ second.begins (begins_trans _ _ _ write.begins last.begins))) c.requires.cells does.2)
    (returns-clause-typed g c)

pub returns-clause-frame : goal.returns-clause-frame
returns-clause-frame g c =
    let IsFirst = IsOfCell g.T.Coded.WORDS c.args.self.now.at c.args.i in
    let IsSecond = IsOfCell g.T.Coded.WORDS c.args.self.now.at c.args.j in
    map_ok c.write_cell-2.result (λ last. record {
      appended = either_written IsFirst IsSecond _ _ _ _ _ c.in_ok-first.ensures.looks.writes
          c.in_ok-second.ensures.looks.writes c.in_ok-write_cell.ensures.frame.appended last.appended;
    }) c.write_cell-2.ensures.frame

pub returns-clause-reads : goal.returns-clause-reads
returns-clause-reads g c =
    let IsFirst = IsOfCell g.T.Coded.WORDS c.args.self.now.at c.args.i in
    let IsSecond = IsOfCell g.T.Coded.WORDS c.args.self.now.at c.args.j in
    let shapes = g.W.Shape.Shape in
    let first = c.in_ok-first.ensures in
    let second = c.in_ok-second.ensures in
    let fits_first = some_at shapes.word_count shapes.good _ _ _ first.goes_on.shape (g.met.W.Words.fits c.read_cell.new.w first.goes_on.sound) in
    let fits_second = some_at shapes.word_count shapes.good _ _ _ second.goes_on.shape (g.met.W.Words.fits c.read_cell-2.new.w second.goes_on.sound) in
    map_ok c.write_cell-2.result (λ last. record {
      appended = either_read IsFirst IsSecond _ _ _ _ _ (first.looks.reads fits_first.0 fits_first.1)
          (second.looks.reads fits_second.0 fits_second.1) c.in_ok-write_cell.ensures.reads.appended last.appended;
    }) c.write_cell-2.ensures.reads
