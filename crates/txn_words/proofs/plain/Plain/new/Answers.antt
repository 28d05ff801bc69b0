use Rattle.std.proofs.Common.{rules}
use Rattle.txn_words.proofs.Listed.{follows_fresh}
use Rattle.txn_words.proofs.plain.Plain.new.Goals as goal

pub invariant_of-result : goal.invariant_of-result
invariant_of-result g c = follows_fresh _ _ _ _ _ _ c.requires (search rules) (search rules) (search rules)
