use Rattle.worker_pool.proofs.Common.{worker_port, worker_view}
use Rattle.worker_pool.proofs.Steps.{forks}
use Rattle.worker_pool.proofs.ends.pass_of.Goals as goal

pub another-requires : goal.another-requires
another-requires c = forks (worker_port c.args.owner.now) (worker_view c.args.owner.now) c.requires.part
