-- Lists of words with a sum, and what a transfer means on one.
use Rattle.std.specs.Prelude.{◌≡◌, ◌≢◌, ◌↔◌, ℕ, ◌+◌, ◌-◌, ◌<◌, ◌≤◌, ◌^◌, List, Bool, true, Option, length, slice_get, slice_index, slice_set}
use Rattle.std.specs.List.{sum}

-- the words' sum is the total, and fits 64 bits
pub record HasSum (total : ℕ) (s : List ℕ) : Type 0 where
  pub sum_is : sum s ≡ total
  pub fits : total < 2 ^ 64

-- both words are there and differ, and the first has at least the amount
pub record IsCovered (from to amount : ℕ) (s : List ℕ) : Type 0 where
  pub from_there : from < length s
  pub to_there : to < length s
  pub differ : from ≢ to
  pub enough : amount ≤ slice_index s from

-- the amount taken from the first word, and put into the second
abbrev pub moved : ℕ → ℕ → ℕ → List ℕ → List ℕ
moved from to amount s = slice_set (slice_set s from (slice_index s from - amount)) to (slice_index s to + amount)

-- it is kept exactly if the amount is covered, and then the amount is moved
pub record Moves (from to amount : ℕ) (s : List ℕ) (kept : Bool) (t : List ℕ) : Type 0 where
  pub covered : (kept ≡ true) ↔ IsCovered from to amount s
  pub moves : kept ≡ true → t ≡ moved from to amount s

-- the answer is the sum of the words, and nothing changes
pub record TellsSum (s : List ℕ) (kept : Bool) (answer : ℕ) (t : List ℕ) : Type 0 where
  pub keeps : kept ≡ true
  pub tells : answer ≡ sum s
  pub same : t ≡ s

-- the answer is the word at the place, if there is one, and nothing changes
pub record TellsWord (place : ℕ) (s : List ℕ) (kept : Bool) (held : Option ℕ) (t : List ℕ) : Type 0 where
  pub keeps : kept ≡ true
  pub tells : held ≡ slice_get s place
  pub same : t ≡ s
