use Rattle.worker_pool.proofs.Common.{◌≡◌, view, SamePass}
use Rattle.worker_pool.proofs.ends.steal.Given as goal

abbrev pub invariant-loop : goal.invariant-loop
invariant-loop g l = record {
  same : SamePass l.fn.pass l.pass;
  view_is : view l.pass ≡ view l.fn.pass;
}
