use Rattle.worker_pool.proofs.Common.{◌≡◌, ◌<◌, ◌++◌, All, map, length, get_or, ℕ, into_iter_items, into_iter_len, IsNewRow, worker_of, IsSeated}
use Rattle.worker_pool.proofs.run.seat_workers.Given as goal

-- the owners so far have their workers
abbrev pub invariant-loop-own : goal.invariant-loop-own
invariant-loop-own g l = record {
  all_come : l.yielded ++ into_iter_items l.own-iterator ≡ into_iter_items l.initial.own-iterator;
  left : into_iter_len l.own-iterator ≡ length (into_iter_items l.own-iterator);
  level : length l.rows.items ≡ into_iter_len l.own-iterator;
  rows : All (λ row. IsNewRow l.fn.owners.items row.items) l.rows.items;
  seated : All (λ client. IsSeated l.work.stealers.now (worker_of client.worker)) l.clients.items;
  shared : All (λ client. (client.shape ≡ l.work.shape) × (client.stealers.now ≡ l.work.stealers.now)
      × (client.input.now ≡ l.work.input.now)) l.clients.items;
  seats : (k : ℕ) (d : _) → k < length l.clients.items → (worker_of (get_or l.clients.items k d).worker).queue.seat ≡ k;
  owners : map (λ client. (worker_of client.worker).queue.own) l.clients.items ≡ l.yielded;
}
