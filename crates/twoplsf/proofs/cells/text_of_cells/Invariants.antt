use Rattle.twoplsf.proofs.Common.{◌≡◌, ℕ, List, take, string_bytes, CELLS, AreCellValues, cells_text}
use Rattle.txn_cells.specs.contracts.numbers.U128Coded.TheImpl.{ghosts as numbers}
use Rattle.twoplsf.proofs.cells.text_of_cells.Given as goal

-- the cells so far have their lines
abbrev pub invariant-loop-place : goal.invariant-loop-place
invariant-loop-place l = record {
  lines : (values : List ℕ) → AreCellValues numbers 0 CELLS l.words values → string_bytes l.text ≡ cells_text (take l.place values);
}
