use Rattle.worker_pool.proofs.Common.{◌≡◌, ◌++◌, map, flat_map, length, into_iter_items, into_iter_len, Share}
use Rattle.worker_pool.proofs.run.join_shares.Given as goal

-- what the shares so far have is put together
abbrev pub invariant-loop-share : goal.invariant-loop-share
invariant-loop-share l = record {
  all_come : l.yielded ++ into_iter_items l.share-iterator ≡ into_iter_items l.initial.share-iterator;
  left : into_iter_len l.share-iterator ≡ length (into_iter_items l.share-iterator);
  passes : l.passes.items ≡ map (λ (share : Share). share.pass) l.yielded;
  done : l.all.items ≡ flat_map (λ (share : Share). share.done.items) l.yielded;
}
