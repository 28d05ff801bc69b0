use Rattle.txn_books.proofs.Common.{ℕ, length, position_cmp, AddsUp, with_prices, IsBuilt, above}
use Rattle.std.specs.FinMap as entry_map
use Rattle.txn_books.proofs.building.add_positions.Given as goal

-- the positions up to the last one are in, and those above it make the rest
abbrev pub invariant-loop-account : goal.invariant-loop-account
invariant-loop-account l = record {
  done : entry_map.FinMap position_cmp ℕ;
  built : IsBuilt l.shape l.words.items (record (with_prices l.books) { positions = done });
  left : AddsUp done (above position_cmp l.last (entry_map.entries l.books.positions)) l.books.positions;
}

abbrev pub decreases-loop-account : goal.decreases-loop-account
decreases-loop-account l = length (above position_cmp l.last (entry_map.entries l.books.positions))
