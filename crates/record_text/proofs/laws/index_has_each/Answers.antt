use Rattle.record_text.proofs.Places.{at_place}
use Rattle.record_text.proofs.laws.index_has_each.Goals as goal

pub returns : goal.returns
returns c = at_place
