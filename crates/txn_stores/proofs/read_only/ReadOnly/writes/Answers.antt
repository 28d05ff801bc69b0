use Rattle.txn_stores.proofs.Common.{ap, ◌∙◌, count_writes}
use Rattle.history_model.proofs.Common.{Trace}
use Rattle.txn_words.proofs.Listed.{follows_noted, trace_of}
use Rattle.txn_stores.proofs.read_only.ReadOnly.writes.Goals as goal

pub returns-clause-all : goal.returns-clause-all
returns-clause-all g c = follows_noted _ _ _ _ _ _ c.self.invariant ∙ ap (λ (t : Trace). count_writes t) (ap trace_of c.self.view_is)
