use Rattle.txn_words.proofs.Common.{ap, ◌∙◌}
use Rattle.txn_words.proofs.Listed.{follows_restores, origin_of}
use Rattle.txn_words.proofs.plain.Plain.into_origin.Goals as goal

pub returns : goal.returns
returns g c = c.write_back.ensures ∙ follows_restores _ _ _ _ _ _ c.self.invariant ∙ ap origin_of c.self.view_is
