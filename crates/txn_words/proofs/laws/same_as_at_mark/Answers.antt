use Rattle.txn_words.proofs.GoingBack.{same_as_at_mark}
use Rattle.txn_words.proofs.laws.same_as_at_mark.Goals as goal

pub returns : goal.returns
returns g c = same_as_at_mark g.W.Words g.W.Shape.Shape
