-- In how many sets of blocks a block is.
use Rattle.std.specs.Prelude.{ℕ, List, count_by}
use Rattle.std.specs.FinSet as set
use Rattle.txn_alloc.specs.EntryMaps.{Blocks}

-- in how many of the sets block b is
abbrev pub times_among : ℕ → List Blocks → ℕ
times_among b sets = count_by (λ s. set.contains s b) sets
