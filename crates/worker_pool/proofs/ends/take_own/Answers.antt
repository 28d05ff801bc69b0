use Rattle.worker_pool.proofs.Common.{worker_port, worker_view}
use Rattle.worker_pool.proofs.Steps.{takes, finds}
use Rattle.worker_pool.proofs.ends.take_own.Goals as goal

pub pop_as-requires-clause-fifo : goal.pop_as-requires-clause-fifo
pop_as-requires-clause-fifo c fifo = takes (worker_port c.args.owner.now) (worker_view c.args.owner.now) c.requires.part

pub pop_as-requires-clause-empty : goal.pop_as-requires-clause-empty
pop_as-requires-clause-empty c = finds (worker_port c.args.owner.now) (worker_view c.args.owner.now)
