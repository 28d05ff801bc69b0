use Rattle.txn_books.proofs.Common.{length, nat_cmp, Entries, AddsUp, with_accounts, IsBuilt, above}
use Rattle.std.specs.FinMap as entry_map
use Rattle.txn_books.proofs.building.add_prices.Given as goal

-- the prices up to the last one are in, and those above it make the rest
abbrev pub invariant-loop-instrument : goal.invariant-loop-instrument
invariant-loop-instrument l = record {
  done : Entries;
  built : IsBuilt l.shape l.words.items (record (with_accounts l.books) { prices = done });
  left : AddsUp done (above nat_cmp l.last (entry_map.entries l.books.prices)) l.books.prices;
}

abbrev pub decreases-loop-instrument : goal.decreases-loop-instrument
decreases-loop-instrument l = length (above nat_cmp l.last (entry_map.entries l.books.prices))
