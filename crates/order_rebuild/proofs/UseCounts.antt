-- How many uses are such.
use Rattle.order_rebuild.proofs.Common.{flag, LockUse, Spot}
use Rattle.std.specs.Prelude.{ℕ, Bool, List}
use Rattle.std.specs.List.{sum_by}

-- how many of the uses are such
abbrev pub count_uses : (LockUse → Bool) → List LockUse → ℕ
count_uses f us = sum_by (λ u. flag (f u)) us

-- how many of the uses of all items
abbrev pub count_all : (LockUse → Bool) → List Spot → ℕ
count_all f list = sum_by (λ s. count_uses f s.uses) list
