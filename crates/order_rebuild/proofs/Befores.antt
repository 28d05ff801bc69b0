-- Who stands before a place of a line.
use Rattle.order_rebuild.proofs.Common.{Lines, items}
use Rattle.std.specs.Prelude.{ℕ, slice_index}

abbrev pub before_at : Lines → ℕ → ℕ
before_at l i = slice_index l.before.items i
