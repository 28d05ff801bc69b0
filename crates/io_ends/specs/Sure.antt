-- A source that never fails, as contracts see it.
use Rattle.std.specs.Prelude.{ℕ, List}

-- the bytes that are left, and how many reads there were
pub record UnfailingSource : Type 0 where
  pub left : List ℕ
  pub reads : ℕ
