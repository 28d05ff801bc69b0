use Rattle.order_match.proofs.Whole.{full_without_two}
use Rattle.order_match.proofs.laws.full_without_two.Goals as goal

pub returns : goal.returns
returns c = full_without_two
