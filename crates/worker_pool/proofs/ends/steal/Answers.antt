use Rattle.worker_pool.proofs.Common.{ℕ, ◌<◌, subst, sym, ap, view, Deal}
use Rattle.std.proofs.Common.{min}
use Rattle.crossbeam_deque.specs.Handles.{stealer_flavor}
use Rattle.worker_pool.proofs.Steps.{takes, finds_few}
use Rattle.worker_pool.proofs.ends.steal.Goals as goal

pub steal_as-requires-clause-takes : goal.steal_as-requires-clause-takes
steal_as-requires-clause-takes g c = takes c.loop.pass.id (view c.loop.pass) (subst (λ (v : Deal). 0 < v.parts) (sym c.loop.invariant.view_is) c.requires.part)

pub steal_as-requires-clause-empty : goal.steal_as-requires-clause-empty
steal_as-requires-clause-empty g c =
    finds_few c.loop.pass.id (view c.loop.pass) (min (stealer_flavor c.args.stealer.now) 1) (ap (λ (k : ℕ). min k 1) c.requires.fifo)
