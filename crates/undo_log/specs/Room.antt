-- An undo log as clauses see it.
use Rattle.std.specs.Prelude.{ℕ, ◌-◌, List, length, take}

-- the words with their old values, oldest first, and how many more it takes without memory
pub record Room : Type 0 where
  pub list : List (ℕ × ℕ)
  pub spare : ℕ

-- the list without its newest pair
abbrev pub older_than_newest : List (ℕ × ℕ) → List (ℕ × ℕ)
older_than_newest list = take (length list - 1) list
