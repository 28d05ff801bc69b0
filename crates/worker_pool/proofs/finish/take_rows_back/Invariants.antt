use Rattle.worker_pool.proofs.Common.{◌≡◌, ◌+◌, ◌++◌, ℕ, length, into_iter_items, into_iter_len, HaveMore, owners_took, rows_stole}
use Rattle.worker_pool.proofs.finish.take_rows_back.Given as goal

-- the rows so far are given back
abbrev pub invariant-loop-row : goal.invariant-loop-row
invariant-loop-row l = record {
  all_come : l.yielded ++ into_iter_items l.row-iterator ≡ into_iter_items l.initial.row-iterator;
  left : into_iter_len l.row-iterator ≡ length (into_iter_items l.row-iterator);
  owners : HaveMore (length l.yielded) l.fn.owners.items l.owners.items;
  took : (x : ℕ) → owners_took l.owners.items x ≡ owners_took l.fn.owners.items x + rows_stole l.yielded x;
}
