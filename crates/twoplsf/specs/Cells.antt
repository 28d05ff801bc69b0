-- What a run over cells is, and what is printed of it.
-- `code` is how a number of 128 bits is spelled.
use Rattle.std.specs.Prelude.{◌≡◌, ℕ, ◌*◌, List, [], ◌∷◌, Option, codes, replicate}
use Rattle.std.specs.List.{enumerate_from, flat_map}
use Rattle.std.specs.Io.KnownBytes.{Appends}
use Rattle.script_reader.specs.Text.{line, number}
use Rattle.txn_cells.specs.declared.array.CellsShape.{CellsShape}
use Rattle.txn_cells.specs.declared.coded.Coded.{Ghosts as Codes}
use Rattle.txn_cells.specs.declared.limits.TheConstants.{CELLS}
use Rattle.txn_cells.specs.Adding.{AreAllCells, sums_of}
use Rattle.txn_cells.specs.Cells.{AreCellValues}
use Rattle.txn_cells.specs.Rounds.{AreSoMany, HaveRounds}
use Rattle.word_table.specs.Closing.{AreRecords, ClosedView, IsCoherent, IsLegalInEachOrder}
use Rattle.twoplsf.specs.Command.{IsCellsCommand}

-- the line of a cell: its place, from 0, and its value
abbrev pub cell_line : ℕ × ℕ → List ℕ
cell_line cell = line (codes "cell" ∷ number cell.0 ∷ number cell.1 ∷ [])

-- the lines of the cells with these values, in their order
abbrev pub cells_text : List ℕ → List ℕ
cells_text values = flat_map cell_line (enumerate_from 0 values)

module _ {kind : Codes ℕ} (code : Codes ℕ) where
  -- a run over cells by so many workers, in so many rounds each: a table with a seat for each, whose words were 0; all
  -- that was committed on it, with the attempts that gave way, has an arrangement, and each arrangement is a legal
  -- history, whose replay its words are at the end; each worker made its rounds, and each cell has the sum of what all
  -- of them added to it
  pub record IsCellsRun (workers rounds : ℕ) (closed : ClosedView (CellsShape ℕ kind)) : Type 0 where
    pub shape : (closed.shape.at ≡ 0) × (closed.shape.len ≡ CELLS)
    pub began : closed.base ≡ replicate (CELLS * 2) 0
    pub seats : closed.seats ≡ workers
    pub coherent : IsCoherent (AreAllCells code) closed
    pub legal : IsLegalInEachOrder (AreAllCells code) closed
    pub records : AreRecords closed
    pub count : AreSoMany workers rounds closed.records
    pub rounds_made : HaveRounds code workers rounds closed.records
    pub sums : AreCellValues code 0 CELLS closed.words (sums_of workers rounds)

  -- the run of `cells`: by as many workers and rounds as the words say; what was printed are the values of its words
  pub record IsCellsRunFor (words : List (List ℕ)) (before now : Option (List ℕ)) (closed : ClosedView (CellsShape ℕ kind))
      : Type 0 where
    pub workers : ℕ
    pub rounds : ℕ
    pub command : IsCellsCommand words workers rounds
    pub run : IsCellsRun workers rounds closed
    pub printed : (values : List ℕ) → AreCellValues code 0 CELLS closed.words values
        → Appends before now (cells_text values)
