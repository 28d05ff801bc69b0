use Rattle.worker_pool.proofs.Common.{◌≡◌, All, [], length, worker_view, ALL_PARTS, deal, AreShown}
use Rattle.worker_pool.proofs.dealing.make_deques.Given as goal

-- the deques so far
abbrev pub invariant-loop-deque : goal.invariant-loop-deque
invariant-loop-deque l = record {
  count : length l.owners.items ≡ l._deque;
  shown : AreShown l.stealers.items l.owners.items;
  new : All (λ owner. worker_view owner ≡ deal ALL_PARTS [] []) l.owners.items;
}
