use Rattle.worker_pool.proofs.Common.{ℕ, ◌≡◌, ◌+◌, worker_view, worker_flavor, ALL_PARTS, times}
use Rattle.worker_pool.proofs.finish.drain.Given as goal

-- what was taken so far is in the list
abbrev pub invariant-loop : goal.invariant-loop
invariant-loop g l = record {
  parts : (worker_view l.owner).parts ≡ ALL_PARTS;
  fifo : worker_flavor l.owner ≡ 0;
  dealt : (worker_view l.owner).dealt ≡ (worker_view l.fn.owner).dealt;
  left : (x : ℕ) → times x (worker_view l.fn.owner).taken + times x l.left.items ≡ times x (worker_view l.owner).taken + times x l.fn.left.items;
}
