-- The least number of a kind.
use Rattle.std.specs.Prelude.{ℕ, ◌<◌, Option, Some, None}

-- the answer is the least number that P holds of, and None exactly if there is none
abbrev pub IsLeast : (ℕ → Type 0) → Option ℕ → Type 0
IsLeast P None = (k : ℕ) → ¬ P k
IsLeast P (Some j) = P j × ((k : ℕ) → k < j → ¬ P k)
