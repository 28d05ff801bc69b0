-- What callers add to cells, each in its rounds: a number of 128 bits in each cell.
-- `code` is how such a number is spelled.
use Rattle.std.specs.Prelude.{◌≡◌, ℕ, zero, suc, ◌+◌, ◌-◌, ◌*◌, ◌%◌, ◌^◌, ◌==◌, if◌then◌else◌, Bool, true}
use Rattle.std.specs.Prelude.{List, map, slice_index, slice_set}
use Rattle.std.specs.List.{range_with_len}
use Rattle.history_model.specs.Fitting.{IsGood}
use Rattle.txn_cells.specs.declared.coded.Coded.{Ghosts as Codes}
use Rattle.txn_cells.specs.declared.limits.TheConstants.{CELLS}
use Rattle.txn_cells.specs.Cells.{AreCells, AreCellValues}

-- the cell at place i has so much more, modulo 2^128
abbrev pub added_to : ℕ → ℕ → List ℕ → List ℕ
added_to i amount values = slice_set values i ((slice_index values i + amount) % 2 ^ 128)

-- the cells to which a caller adds in a round: a great amount to the first, and 1 to the second
abbrev pub first_cell : ℕ → ℕ → ℕ
first_cell caller round = (caller + round) % CELLS

abbrev pub second_cell : ℕ → ℕ → ℕ
second_cell caller round = (caller + round + 1) % CELLS

-- the values when the caller has added to them in the round
abbrev pub added_by : ℕ → ℕ → List ℕ → List ℕ
added_by caller round values =
    added_to (second_cell caller round) 1 (added_to (first_cell caller round) (2 ^ 64 - 1) values)

-- how much of that goes to the cell at place i
abbrev pub amount_by : ℕ → ℕ → ℕ → ℕ
amount_by caller round i =
    (if first_cell caller round == i then 2 ^ 64 - 1 else 0) + (if second_cell caller round == i then 1 else 0)

-- f 0 + f 1 + .. of the first n numbers
unfoldable pub sum_below : ℕ → (ℕ → ℕ) → ℕ
sum_below zero f = 0
sum_below (suc n) f = sum_below n f + f n

-- the values when all callers have added in all their rounds, to cells that had 0: the sums themselves
abbrev pub sums_of : ℕ → ℕ → List ℕ
sums_of callers rounds =
    map (λ i. sum_below callers (λ c. sum_below rounds (λ r. amount_by c r i))) (range_with_len 0 CELLS)

module _ (code : Codes ℕ) where
  -- the cells, and no word besides them
  abbrev pub AreAllCells : List ℕ → Type 0
  AreAllCells s = IsGood (CELLS * code.WORDS) (AreCells code 0 CELLS) s

  -- from words to words the caller added in the round: the writes are kept, and nothing else changes
  pub record AddsInRound (caller round : ℕ) (s : List ℕ) (kept : Bool) (t : List ℕ) : Type 0 where
    pub keeps : kept ≡ true
    pub adds : (values : List ℕ) → AreCellValues code 0 CELLS s values
        → AreCellValues code 0 CELLS t (added_by caller round values)
