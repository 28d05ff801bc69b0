use Rattle.txn_threads.proofs.Common.{◌≡◌, ◌++◌, map, length, into_iter_items, into_iter_len}
use Rattle.std.proofs.Common.{reverse}
use Rattle.txn_threads.proofs.run.seat_all.Given as goal

-- the clients so far have their passes, and the rest of the passes is turned round
abbrev pub invariant-loop-client : goal.invariant-loop-client
invariant-loop-client g l = record {
  all_come : l.yielded ++ into_iter_items l.client-iterator ≡ into_iter_items l.initial.client-iterator;
  left : into_iter_len l.client-iterator ≡ length (into_iter_items l.client-iterator);
  level : length l.passes.items ≡ into_iter_len l.client-iterator;
  clients : map (λ seat. seat.client) l.seats.items ≡ l.yielded;
  passes : map (λ seat. seat.pass) l.seats.items ++ reverse l.passes.items ≡ l.fn.passes.items;
}
