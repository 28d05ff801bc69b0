-- Cells in words, and the values that they have.
-- `code` is how a type spells its values (`Coded`); the cells lie behind one another, from the word `at` on.
use Rattle.std.specs.Prelude.{◌≡◌, ℕ, ◌+◌, ◌*◌, ◌<◌, ◌≤◌, List, Some, length, take, drop, slice_get}
use Rattle.txn_cells.specs.declared.coded.Coded.{Ghosts as Codes}
use Rattle.txn_cells.specs.declared.limits.TheConstants.{MOST_WORDS, MOST_WORDS_OF_A_CELL}

-- a cell takes a word at least, and the array ends within the words that there may be
pub record IsArray (words at len : ℕ) : Type 0 where
  pub some : 1 ≤ words
  pub few : words ≤ MOST_WORDS_OF_A_CELL
  pub within : at + len * words ≤ MOST_WORDS

-- a is a word of the cell at place i, of so many words each
abbrev pub IsOfCell : ℕ → ℕ → ℕ → ℕ → Type 0
IsOfCell words at i a = (at + i * words ≤ a) × (a < at + i * words + words)

module _ {T : Type 0} (code : Codes T) where
  -- the words of the cell at place i
  abbrev pub cell_words : ℕ → ℕ → List ℕ → List ℕ
  cell_words at i s = take code.WORDS (drop (at + i * code.WORDS) s)

  -- the values of the cells, in order: each is one of the type's, and its words are those of its cell
  pub record AreCellValues (at len : ℕ) (s : List ℕ) (values : List T) : Type 0 where
    pub count : length values ≡ len
    pub each : (i : ℕ) (x : T) → slice_get values i ≡ Some x → code.is_value x × (cell_words at i s ≡ code.words x)

  -- each cell's words spell a value
  abbrev pub AreCells : ℕ → ℕ → List ℕ → Type 0
  AreCells at len s = (values : List T) × AreCellValues at len s values
