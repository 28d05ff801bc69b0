use Rattle.txn_stores.proofs.Common.{rules}
use Rattle.txn_words.proofs.Listed.{follows_fresh}
use Rattle.txn_stores.proofs.read_only.ReadOnly.new.Goals as goal

pub invariant_of-result : goal.invariant_of-result
invariant_of-result g c = follows_fresh _ _ _ _ _ _ c.requires (search rules) (search rules) (search rules)

pub returns-clause-sound : goal.returns-clause-sound
returns-clause-sound g c = record { fits = (invariant_of-result g c).fits; no_yield = λ e. absurd (cc) }
