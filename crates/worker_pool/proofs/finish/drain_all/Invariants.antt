use Rattle.worker_pool.proofs.Common.{◌≡◌, ◌+◌, ◌++◌, ℕ, length, into_iter_items, into_iter_len, times, owners_dealt, owners_took}
use Rattle.worker_pool.proofs.finish.drain_all.Given as goal

-- of the owners so far, all that was dealt was taken or is in the list
abbrev pub invariant-loop-owner : goal.invariant-loop-owner
invariant-loop-owner g l = record {
  all_come : l.yielded ++ into_iter_items l.owner-iterator ≡ into_iter_items l.initial.owner-iterator;
  len_is : into_iter_len l.owner-iterator ≡ length (into_iter_items l.owner-iterator);
  emptied : (x : ℕ) → owners_took l.yielded x + times x l.left.items ≡ owners_dealt l.yielded x + times x l.fn.left.items;
}
