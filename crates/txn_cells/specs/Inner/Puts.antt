-- What is known between a cell's words, while they are read and written one by one.
use Rattle.std.specs.Prelude.{◌≡◌, ◌⊎◌, ℕ, ◌+◌, ◌<◌, ◌≤◌, List, length, slice_index_or}

-- these words stand from the place on
abbrev pub HasWords : ℕ → List ℕ → List ℕ → Type 0
HasWords place words s = (k : ℕ) → k < length words → slice_index_or s (place + k) 0 ≡ slice_index_or words k 0

-- these words were put in from the place on, and all others stay
pub record PutsWords (place : ℕ) (words old new : List ℕ) : Type 0 where
  pub count : length new ≡ length old
  pub stand : HasWords place words new
  pub others : (a : ℕ) → (a < place) ⊎ (place + length words ≤ a) → slice_index_or new a 0 ≡ slice_index_or old a 0
