-- What callers did in their rounds, by the records of a closed table.
use Rattle.std.specs.Prelude.{◌≡◌, ℕ, ◌+◌, ◌*◌, ◌<◌, ◌≤◌, ◌==◌, true, List, length, count_by}
use Rattle.history_model.specs.declared.entry.Entry.{Entry}
use Rattle.history_model.specs.Legal.{IsIn}
use Rattle.history_model.specs.Traces.{IsLegalTrace, after}
use Rattle.txn_cells.specs.declared.coded.Coded.{Ghosts as Codes}
use Rattle.txn_cells.specs.Adding.{AddsInRound, AreAllCells}

module _ (code : Codes ℕ) where
  -- the seat's call of this round, the calls counted from 1: on all words on which its trace is legal it is kept, adds
  -- what the caller adds in the round, and changes nothing else
  pub record IsRound (records : List Entry) (caller round : ℕ) : Type 0 where
    pub entry : Entry
    pub there : IsIn entry records
    pub by_seat : entry.who ≡ caller
    pub call_is : entry.call ≡ round + 1
    pub adds : (s : List ℕ) → AreAllCells code s → IsLegalTrace entry.trace s
        → AddsInRound code caller round s entry.kept (after entry.trace s)

  -- one caller made so many rounds, and nothing else
  pub record HasRounds (caller rounds : ℕ) (records : List Entry) : Type 0 where
    pub each : (r : ℕ) → r < rounds → IsRound records caller r
    pub no_more : (e : Entry) → IsIn e records → (e.who ≡ caller) × (1 ≤ e.call) × (e.call ≤ rounds)

  -- so many callers made so many rounds each, all of them kept, and nothing else
  pub record HaveRounds (callers rounds : ℕ) (records : List Entry) : Type 0 where
    pub each : (c r : ℕ) → c < callers → r < rounds → IsRound records c r
    pub kept : (e : Entry) → IsIn e records → e.kept ≡ true
    pub no_more : (e : Entry) → IsIn e records → (e.who < callers) × (1 ≤ e.call) × (e.call ≤ rounds)

-- there are so many records of each caller, and no others
pub record AreSoMany (callers rounds : ℕ) (records : List Entry) : Type 0 where
  pub all : length records ≡ callers * rounds
  pub of_each : (c : ℕ) → c < callers → count_by (λ e. e.who == c) records ≡ rounds
