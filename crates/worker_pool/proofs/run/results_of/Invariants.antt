use Rattle.worker_pool.proofs.Common.{◌≡◌, ◌++◌, map, length, reverse, into_iter_items, into_iter_len, worker_of}
use Rattle.worker_pool.proofs.run.results_of.Given as goal

-- what the workers so far had is put together, and the rest of the passes is turned round
abbrev pub invariant-loop-client : goal.invariant-loop-client
invariant-loop-client g l = record {
  all_come : l.yielded ++ into_iter_items l.client-iterator ≡ into_iter_items l.initial.client-iterator;
  left : into_iter_len l.client-iterator ≡ length (into_iter_items l.client-iterator);
  level : length l.passes.items ≡ into_iter_len l.client-iterator;
  owners : l.all.owners.items ≡ map (λ client. (worker_of client.worker).queue.own) l.yielded;
  rows : l.all.rows.items ≡ map (λ client. (worker_of client.worker).queue.passes) l.yielded;
  passes : map (λ share. share.pass) l.all.shares.items ++ reverse l.passes.items ≡ l.fn.passes.items;
  done : map (λ share. share.done.items) l.all.shares.items ≡ map (λ client. (worker_of client.worker).done.items) l.yielded;
}
