use Rattle.order_match.proofs.Whole.{free_counted}
use Rattle.order_match.proofs.laws.free_blocks_counted.Goals as goal

pub returns : goal.returns
returns c = free_counted
