use Rattle.worker_pool.proofs.Common.{AreAtEach, stolen}
use Rattle.worker_pool.specs.Inner.Ends.{HadSame}
use Rattle.worker_pool.proofs.queue.steal_round.Given as goal

-- no deque gave a caller so far
abbrev pub invariant-loop-step : goal.invariant-loop-step
invariant-loop-step g l = record {
  fits : AreAtEach l.stealers l.passes.items;
  same : HadSame (stolen l.fn.passes.items) (stolen l.passes.items);
}
