use Rattle.order_match.proofs.Changes.{chain_change_stands}
use Rattle.order_match.proofs.laws.chain_change_stands.Goals as goal

pub returns : goal.returns
returns c = chain_change_stands
