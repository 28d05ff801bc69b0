use Rattle.order_match.proofs.Changes.{tree_change_stands}
use Rattle.order_match.proofs.laws.tree_change_stands.Goals as goal

pub returns : goal.returns
returns c = tree_change_stands
