use Rattle.txn_tree_map.proofs.Common.{ap, arith, rules, goes_call, goes_then, goes_as, some_since, leads_now}
use Rattle.txn_tree_map.proofs.Removals.JoinCalls.{last_within, joins_leads, joins_own, joins_seen}
use Rattle.txn_tree_map.proofs.join.join.Goals as goal

pub write-requires-clause-within : goal.write-requires-clause-within
write-requires-clause-within g c =
    let p = c.in_ok-last.last in
    let one = c.in_ok-last.ensures in
    let some = some_since g.W.Words g.W.Shape.Shape one.goes_on.shape
    (g.met.W.Words.fits c.join_all_but_last.new.w one.goes_on.sound) in
    let within = last_within (leads_now one.gathered) some in
    omega (arith, ap g.W.Shape.Shape.word_count one.goes_on.shape)

pub returns-clause-joined : goal.returns-clause-joined
returns-clause-joined g c =
    record {
      at = (joins_leads (leads_now c.in_ok-last.ensures.gathered) c.in_ok-write.ensures.value).at;
    }

pub returns-clause-frame : goal.returns-clause-frame
returns-clause-frame g c =
    record {
      at = joins_own (leads_now c.in_ok-last.ensures.gathered) c.in_ok-write.ensures.value c.in_ok-last.ensures.frame.at;
    }

pub returns-clause-reads : goal.returns-clause-reads
returns-clause-reads g c =
    record {
      at = joins_seen (leads_now c.in_ok-last.ensures.gathered) c.in_ok-write.ensures.value c.in_ok-last.ensures.reads.at;
    }

pub returns-in_err-last-clause-goes_on : goal.returns-in_err-last-clause-goes_on
returns-in_err-last-clause-goes_on g c = goes_as c.in_err-last.ensures.goes_on (search rules)

pub returns-in_err-write-clause-goes_on : goal.returns-in_err-write-clause-goes_on
returns-in_err-write-clause-goes_on g c = goes_as (goes_then c.in_ok-last.ensures.goes_on (goes_call c.in_err-write.ensures)) (search rules)
