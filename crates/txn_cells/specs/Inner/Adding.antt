-- What is known between the two additions of a round.
use Rattle.std.specs.Prelude.{ℕ, List}
use Rattle.txn_cells.specs.declared.coded.Coded.{Ghosts as Codes}
use Rattle.txn_cells.specs.Adding.{added_to}
use Rattle.txn_cells.specs.Cells.{AreCellValues}

module _ (code : Codes ℕ) (at len : ℕ) where
  -- the cell at place i has so much more, modulo 2^128, and the others stay
  pub record AddsTo (i amount : ℕ) (old new : List ℕ) : Type 0 where
    pub each : (values : List ℕ) → AreCellValues code at len old values
        → AreCellValues code at len new (added_to i amount values)
