use Rattle.txn_books.proofs.Common.{◌+◌, length, nat_cmp, Entries, tree_of, AddsUp, nothing_yet, IsBuilt, above}
use Rattle.txn_tree_map.specs.Spines.{HasSpine}
use Rattle.std.specs.FinMap as entry_map
use Rattle.txn_books.proofs.building.add_accounts.Given as goal

-- the accounts up to the last one are in, the spine is that of their tree, and those above it make the rest
abbrev pub invariant-loop-account : goal.invariant-loop-account
invariant-loop-account l = record {
  done : Entries;
  built : IsBuilt l.shape l.words.items (record (nothing_yet l.books) { accounts = done });
  spine : HasSpine (tree_of l.shape) (l.last + 1) l.words.items l.spine;
  left : AddsUp done (above nat_cmp l.last (entry_map.entries l.books.accounts)) l.books.accounts;
}

abbrev pub decreases-loop-account : goal.decreases-loop-account
decreases-loop-account l = length (above nat_cmp l.last (entry_map.entries l.books.accounts))
