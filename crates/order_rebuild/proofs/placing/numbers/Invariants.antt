use Rattle.order_rebuild.proofs.Common.{◌≡◌, ℕ, ◌<◌, slice_index, length}
use Rattle.order_rebuild.proofs.placing.numbers.Given as goal

abbrev pub invariant-loop-i : goal.invariant-loop-i
invariant-loop-i l = record { count : length l.numbers.items ≡ l.i; each : (k : ℕ) → k < l.i → slice_index l.numbers.items k ≡ k }
