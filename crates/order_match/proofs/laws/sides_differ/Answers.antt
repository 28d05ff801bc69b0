use Rattle.order_match.proofs.Served.{sides_differ}
use Rattle.order_match.proofs.laws.sides_differ.Goals as goal

pub returns : goal.returns
returns c = sides_differ
