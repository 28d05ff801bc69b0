-- What the counter's jobs mean, on a list whose first word is the counter.
use Rattle.std.specs.Prelude.{◌≡◌, ◌↔◌, ℕ, ◌+◌, ◌<◌, ◌≤◌, ◌^◌, List, Bool, true, false, if◌then◌else◌, Some, slice_get, slice_set, sum}

-- the answer is what the counter was; it is kept exactly if one more fits, and then the counter is one more
pub record Counts (s : List ℕ) (kept : Bool) (answer : ℕ) (t : List ℕ) : Type 0 where
  pub was : slice_get s 0 ≡ Some answer
  pub fits : (kept ≡ true) ↔ (answer + 1 < 2 ^ 64)
  pub more : kept ≡ true → t ≡ slice_set s 0 (answer + 1)

-- the amounts are kept exactly if the counter and all of them fit, and then the counter has grown by all of them
pub record AddsAll (amounts s : List ℕ) (kept : Bool) (t : List ℕ) : Type 0 where
  pub fits : (n : ℕ) → slice_get s 0 ≡ Some n → n < 2 ^ 64 → (kept ≡ true) ↔ (n + sum amounts < 2 ^ 64)
  pub grown : (n : ℕ) → slice_get s 0 ≡ Some n → n < 2 ^ 64 → kept ≡ true → slice_get t 0 ≡ Some (n + sum amounts)

-- the word at a takes `by` more
abbrev pub HasRoom : ℕ → ℕ → List ℕ → Type 0
HasRoom a by s = (n : ℕ) → slice_get s a ≡ Some n → n + by < 2 ^ 64

-- the word at a has grown by `by`, and all others stay
abbrev pub AddsTo : ℕ → ℕ → List ℕ → List ℕ → Type 0
AddsTo a by s t = (n : ℕ) → slice_get s a ≡ Some n → t ≡ slice_set s a (n + by)

-- the word at 0 has grown by `by` if the sum fits, and is what it was if it does not; the answer says which
pub record AddsWhereFits (by : ℕ) (fits : Bool) (s t : List ℕ) : Type 0 where
  pub at : (n : ℕ) → slice_get s 0 ≡ Some n
      → ((fits ≡ true) ↔ (n + by < 2 ^ 64)) × (slice_get t 0 ≡ Some (if fits then n + by else n))

-- the counter has grown by the pair if both fit, else by the other amount if that fits, and else nothing is kept
pub record AddsPairOr (pair other : ℕ) (s : List ℕ) (kept : Bool) (t : List ℕ) : Type 0 where
  pub both : (n : ℕ) → slice_get s 0 ≡ Some n → n + pair < 2 ^ 64 → (kept ≡ true) × (slice_get t 0 ≡ Some (n + pair))
  pub instead : (n : ℕ) → slice_get s 0 ≡ Some n → 2 ^ 64 ≤ n + pair → n + other < 2 ^ 64
      → (kept ≡ true) × (slice_get t 0 ≡ Some (n + other))
  pub neither : (n : ℕ) → slice_get s 0 ≡ Some n → 2 ^ 64 ≤ n + pair → 2 ^ 64 ≤ n + other → kept ≡ false
