use Rattle.txn_threads.proofs.Common.{◌≡◌, ◌++◌, All, map, length, false, into_iter_items, into_iter_len}
use Rattle.txn_threads.proofs.run.part_all.Given as goal

-- the clients so far found memory, and they and their passes are put together
abbrev pub invariant-loop-seat : goal.invariant-loop-seat
invariant-loop-seat g l = record {
  all_come : l.yielded ++ into_iter_items l.seat-iterator ≡ into_iter_items l.initial.seat-iterator;
  left : into_iter_len l.seat-iterator ≡ length (into_iter_items l.seat-iterator);
  none_failed : All (λ seat. seat.failed ≡ false) l.yielded;
  clients : l.clients.items ≡ map (λ seat. seat.client) l.yielded;
  passes : l.passes.items ≡ map (λ seat. seat.pass) l.yielded;
}
