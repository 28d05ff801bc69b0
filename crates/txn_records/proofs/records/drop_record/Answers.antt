use Rattle.txn_records.proofs.Common.{arith, rules, goes_then, goes_as, leads_less, turned, turn_then, turned_stands}
use Rattle.txn_records.proofs.Calls.{not_dropped, is_dropped}
use Rattle.txn_records.proofs.records.drop_record.Goals as goal

pub returns-in_default : goal.returns-in_default
returns-in_default g c =
    let first = c.in_ok-rank.ensures.goes_on in
    let did = leads_less g.W.Words g.W.Shape.Shape _ _ _ _ (not_dropped c.args.shape.now c.args.id (omega arith))
    (rw c.in_default.is at c.in_ok-rank.ensures.cut) in
    record {
      dropped = did;
      stands = turned_stands (turned first.shape first.begins did) c.requires.stands;
      goes_on = goes_as first (search rules);
    }

pub returns : goal.returns
returns g c =
    let first = c.in_ok-rank.ensures.goes_on in
    let second = c.in_ok-cut_in.ensures.goes_on in
    let both = goes_then first second in
    let did = leads_less g.W.Words g.W.Shape.Shape _ _ _ _
    (λ x y. is_dropped c.args.shape.now c.args.id (omega arith) x y c.in-Some.rank c.in_ok-cut_in.field-0)
    (turn_then second.shape second.begins (turned first.shape first.begins (rw c.in-Some.is at c.in_ok-rank.ensures.cut))
    (rw c.index_key.ensures at c.in_ok-cut_in.ensures.cut)).leads in
    record {
      dropped = did;
      stands = turned_stands (turned both.shape both.begins did) c.requires.stands;
      goes_on = goes_as both (search rules);
    }

pub returns-in_err-rank-clause-goes_on : goal.returns-in_err-rank-clause-goes_on
returns-in_err-rank-clause-goes_on g c = goes_as c.in_err-rank.ensures.goes_on (search rules)

pub returns-in_err-cut_in-clause-goes_on : goal.returns-in_err-cut_in-clause-goes_on
returns-in_err-cut_in-clause-goes_on g c = goes_as (goes_then c.in_ok-rank.ensures.goes_on c.in_err-cut_in.ensures.goes_on) (search rules)
