use Rattle.txn_cells.proofs.Common.{◌≡◌, length}
use Rattle.std.proofs.Common.{All}
use Rattle.txn_cells.proofs.run.adders.Given as goal

-- so many workers are ready
abbrev pub invariant-loop : goal.invariant-loop
invariant-loop g l = record {
  count : length l.adders.items ≡ l.counter;
  new : All (λ adder. (adder.shape ≡ l.shape) × (adder.rounds ≡ l.rounds)) l.adders.items;
}
