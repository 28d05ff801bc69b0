use Rattle.txn_records.proofs.Common.{IfOk-weaker, goes_then, leads_when, turned, turn_then}
use Rattle.txn_records.proofs.Calls.{good_trees, new_stands}
use Rattle.txn_records.proofs.Puts.{full_at_once, new_put}
use Rattle.txn_records.proofs.records.put_new.Goals as goal

pub put_in-requires-clause-trees : goal.put_in-requires-clause-trees
put_in-requires-clause-trees g c = record { at = λ s fit. good_trees c.args.shape.now _ (c.requires.stands.at s fit) }

pub returns-in-Full-clause-put : goal.returns-in-Full-clause-put
returns-in-Full-clause-put g c =
    let goes = c.in_ok-put_in.ensures.goes_on in
    leads_when g.W.Words g.W.Shape.Shape _ _ _ _ _ goes.begins c.requires.absent
    (λ x y absent. full_at_once c.args.shape.now c.args.id c.args.rank c.args.content c.requires.id c.requires.content x y absent)
    (rw c.in-Full.is at rw c.from.ensures at rw c.from-2.ensures at c.in_ok-put_in.ensures.put)

pub returns : goal.returns
returns g c =
    let first = c.in_ok-put_in.ensures.goes_on in
    let second = c.put_in-2.ensures.goes_on in
    let shape = c.args.shape.now in
    let both = goes_then first second in
    let put = IfOk-weaker c.put_in-2.result _ _
    (λ answer did. leads_when g.W.Words g.W.Shape.Shape _ _ _ _ _ both.begins c.requires.absent
    (λ x y absent. new_put shape c.args.id c.args.rank c.args.content c.requires.id c.requires.content x y c.requires.rank absent
    c.in_ok-put_in.field-0 c.in_default.not-Full answer)
    (turn_then second.shape second.begins
    (turned first.shape first.begins (rw c.from.ensures at rw c.from-2.ensures at c.in_ok-put_in.ensures.put)) did).leads)
    (rw c.index_key-place.ensures at c.put_in-2.ensures.put) in
    record {
      put = put;
      stands = IfOk-weaker c.put_in-2.result _ _
          (λ answer did. new_stands g.W.Words g.W.Shape.Shape shape both.shape both.begins c.requires.stands
          c.args.id c.args.rank c.args.content answer did) put;
      goes_on = both;
    }
