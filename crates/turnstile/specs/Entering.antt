-- How many are inside a room, and what it means to enter.
use Rattle.std.specs.Prelude.{◌≡◌, ◌↔◌, ℕ, ◌+◌, ◌<◌, ◌≤◌, List, Bool, true, slice_index}

-- no more are inside than the limit
abbrev pub HasAtMost : ℕ → List ℕ → Type 0
HasAtMost limit s = slice_index s 0 ≤ limit

-- one more is inside exactly if there was room: then the writes are kept, and the answer says so
pub record Enters (limit : ℕ) (s : List ℕ) (kept let_in : Bool) (t : List ℕ) : Type 0 where
  pub says_so : let_in ≡ kept
  pub room : (kept ≡ true) ↔ (slice_index s 0 < limit)
  pub more : kept ≡ true → slice_index t 0 ≡ slice_index s 0 + 1
