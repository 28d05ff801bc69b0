use Rattle.order_match.proofs.Changes.{last_change_stands}
use Rattle.order_match.proofs.laws.last_change_stands.Goals as goal

pub returns : goal.returns
returns c = last_change_stands
