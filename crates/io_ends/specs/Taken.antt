-- What is taken from the bytes that a source tells, and what a sink that tells its bytes was given.
use Rattle.std.specs.Prelude.{ℕ, ◌-◌, ◌≤◌, List, length, take, Option, Some, None}
use Rattle.std.specs.Io.KnownBytes.{Appends, Consumes}

-- how many bytes were taken, if they are told
abbrev pub count_taken : Option (List ℕ) → Option (List ℕ) → Option ℕ
count_taken (Some before) (Some now) = Some (length before - length now)
count_taken (Some before) None = None
count_taken None now = None

-- the source gave some bytes from its start, and no more than so many
abbrev pub TakesAtMost : Option (List ℕ) → Option (List ℕ) → ℕ → Type 0
TakesAtMost before now most = (bytes : List ℕ) × Consumes before now bytes × (length bytes ≤ most)

-- the sink took a prefix of the text, and nothing else
abbrev pub AppendsPrefix : Option (List ℕ) → Option (List ℕ) → List ℕ → Type 0
AppendsPrefix before now text = (n : ℕ) × Appends before now (take n text)
