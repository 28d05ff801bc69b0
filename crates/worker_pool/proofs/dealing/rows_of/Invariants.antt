use Rattle.worker_pool.proofs.Common.{◌≡◌, All, length, HaveLess, IsNewRow}
use Rattle.worker_pool.proofs.dealing.rows_of.Given as goal

-- the rows so far
abbrev pub invariant-loop-worker : goal.invariant-loop-worker
invariant-loop-worker l = record {
  count : length l.rows.items ≡ l._worker;
  owners : HaveLess l._worker l.fn.owners.items l.owners.items;
  new : All (λ row. IsNewRow l.fn.owners.items row.items) l.rows.items;
}
