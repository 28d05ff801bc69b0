use Rattle.txn_records.proofs.Common.{IfOk-weaker, leads_some}
use Rattle.txn_records.proofs.Calls.{good_trees, cut_range}
use Rattle.txn_records.proofs.records.cut_rank.Goals as goal

pub cut_in-requires-clause-trees : goal.cut_in-requires-clause-trees
cut_in-requires-clause-trees g c = record { at = λ s fit. good_trees c.args.shape.now _ (c.requires.stands.at s fit) }

pub returns-clause-cut : goal.returns-clause-cut
returns-clause-cut g c = rw c.from.ensures at c.cut_in.ensures.cut

pub returns-clause-range : goal.returns-clause-range
returns-clause-range g c =
    let goes = c.cut_in.ensures.goes_on in
    IfOk-weaker c.cut_in.result _ _
    (λ answer did. cut_range c.args.shape.now c.args.id answer
    (leads_some g.W.Words g.W.Shape.Shape goes.shape goes.begins (g.met.W.Words.fits c.cut_in.new.w goes.sound) c.requires.stands did))
    (returns-clause-cut g c)
