use Rattle.worker_pool.proofs.Common.{worker_port, worker_view, view}
use Rattle.worker_pool.proofs.Steps.{merges}
use Rattle.worker_pool.proofs.ends.take_back.Goals as goal

pub absorb-requires-clause-rule : goal.absorb-requires-clause-rule
absorb-requires-clause-rule c = merges (worker_port c.args.owner.now) (worker_view c.args.owner.now) c.args.pass.id
    (view c.args.pass) c.requires.part c.requires.other
