-- Readers and writers of std as a source and a sink, as contracts see them: they tell no bytes themselves, and what
-- they do to the inner stream is said in std's own words.
use Rattle.std.specs.Prelude.{ℕ}

-- the reader, how many reads there were, and how many of them failed
pub record StandardSource (T : Type 0) : Type 0 where
  pub inner : T
  pub reads : ℕ
  pub faults : ℕ

-- the writer, and how many writes failed
pub record StandardSink (T : Type 0) : Type 0 where
  pub inner : T
  pub faults : ℕ
