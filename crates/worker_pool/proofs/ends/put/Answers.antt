use Rattle.worker_pool.proofs.Common.{worker_port, worker_view, [], ◌∷◌}
use Rattle.worker_pool.proofs.Steps.{pushes}
use Rattle.worker_pool.proofs.ends.put.Goals as goal

pub push_as-requires-clause-pushes : goal.push_as-requires-clause-pushes
push_as-requires-clause-pushes c = pushes (worker_port c.args.owner.now) (worker_view c.args.owner.now) (c.args.caller ∷ []) c.requires.part
