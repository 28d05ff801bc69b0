use Rattle.txn_tree_map.proofs.Common.{ap, ◌∙◌, arith, rules, goes_call, goes_then, goes_as, some_since, leads_now}
use Rattle.txn_tree_map.proofs.Inserts.SplitCalls.{splits_leads, splits_own, splits_seen, ends_within}
use Rattle.txn_tree_map.proofs.split.split.Goals as goal

pub write-requires-clause-within : goal.write-requires-clause-within
write-requires-clause-within g c =
    let one = c.in_ok-ends.ensures in
    let some = some_since g.W.Words g.W.Shape.Shape one.goes_on.shape (g.met.W.Words.fits c.part.new.w one.goes_on.sound) in
    let within = ends_within (leads_now one.parted) some in
    omega (arith, within.0, ap g.W.Shape.Shape.word_count one.goes_on.shape)

pub write-requires-2-clause-within : goal.write-requires-2-clause-within
write-requires-2-clause-within g c =
    let one = c.in_ok-ends.ensures in
    let some = some_since g.W.Words g.W.Shape.Shape one.goes_on.shape (g.met.W.Words.fits c.part.new.w one.goes_on.sound) in
    let within = ends_within (leads_now one.parted) some in
    omega (arith, within.1, ap g.W.Shape.Shape.word_count (c.in_ok-write.ensures.shape ∙ one.goes_on.shape))

pub returns-clause-split : goal.returns-clause-split
returns-clause-split g c =
    record {
      at = (splits_leads (leads_now c.in_ok-ends.ensures.parted) c.in_ok-write.ensures.value c.in_ok-write-2.ensures.value).at;
    }

pub returns-clause-frame : goal.returns-clause-frame
returns-clause-frame g c =
    record {
      at = splits_own (leads_now c.in_ok-ends.ensures.parted) c.in_ok-write.ensures.value c.in_ok-write-2.ensures.value c.in_ok-ends.ensures.frame.at;
    }

pub returns-clause-reads : goal.returns-clause-reads
returns-clause-reads g c =
    record {
      at = splits_seen (leads_now c.in_ok-ends.ensures.parted) c.in_ok-write.ensures.value c.in_ok-write-2.ensures.value c.in_ok-ends.ensures.reads.at;
    }

pub returns-in_err-ends-clause-goes_on : goal.returns-in_err-ends-clause-goes_on
returns-in_err-ends-clause-goes_on g c = goes_as c.in_err-ends.ensures.goes_on (search rules)

pub returns-in_err-write-clause-goes_on : goal.returns-in_err-write-clause-goes_on
returns-in_err-write-clause-goes_on g c = goes_as (goes_then c.in_ok-ends.ensures.goes_on (goes_call c.in_err-write.ensures)) (search rules)

pub returns-in_err-write-2-clause-goes_on : goal.returns-in_err-write-2-clause-goes_on
returns-in_err-write-2-clause-goes_on g c =
    goes_as (goes_then (goes_then c.in_ok-ends.ensures.goes_on (goes_call c.in_ok-write.ensures)) (goes_call c.in_err-write-2.ensures)) (search rules)
