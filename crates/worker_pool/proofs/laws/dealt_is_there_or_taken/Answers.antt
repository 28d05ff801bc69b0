use Rattle.worker_pool.proofs.Reached.{parts_are, once_each, by_owner}
use Rattle.worker_pool.proofs.laws.dealt_is_there_or_taken.Goals as goal

pub returns : goal.returns
returns c = record { parts = parts_are; once = once_each; by_owner = by_owner }
