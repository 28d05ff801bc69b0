use Rattle.txn_words.proofs.Common.{ap, ◌∙◌, count_writes, Trace}
use Rattle.txn_words.proofs.Listed.{follows_noted, trace_of}
use Rattle.txn_words.proofs.plain.Plain.noted.Goals as goal

pub returns : goal.returns
returns g c = c.len.ensures ∙ follows_noted _ _ _ _ _ _ c.self.invariant ∙ ap (λ (t : Trace). count_writes t) (ap trace_of c.self.view_is)
