-- Sources and sinks over memory, as contracts see them.
use Rattle.std.specs.Prelude.{ℕ, List}

-- the bytes that are left, the most that one call gives, the numbers of the calls that fail, how many calls there were, and how many of them failed
pub record MemorySource : Type 0 where
  pub left : List ℕ
  pub most : ℕ
  pub fails : List ℕ
  pub reads : ℕ
  pub faults : ℕ

-- the bytes that were taken, how many there is room for, the most that one call takes, the numbers of the calls that
-- fail, how many calls there were, and how many of them failed
pub record MemorySink : Type 0 where
  pub taken : List ℕ
  pub room : ℕ
  pub most : ℕ
  pub fails : List ℕ
  pub writes : ℕ
  pub faults : ℕ
