use Rattle.txn_records.proofs.Common.{goes_then, leads_when, turned, turn_then}
use Rattle.txn_records.proofs.Calls.{good_trees, put_stands}
use Rattle.txn_records.proofs.Puts.{moved}
use Rattle.txn_records.proofs.records.change_rank.Goals as goal

pub put_in-requires-clause-trees : goal.put_in-requires-clause-trees
put_in-requires-clause-trees g c = record { at = λ s fit. good_trees c.args.shape.now _ (c.requires.stands.at s fit) }

pub returns-clause-put : goal.returns-clause-put
returns-clause-put g c =
    let first = c.in_ok-put_in.ensures.goes_on in
    let second = c.in_ok-cut_in.ensures.goes_on in
    let third = c.in_ok-put_in-2.ensures.goes_on in
    let all = turn_then third.shape third.begins (turn_then second.shape second.begins
    (turned first.shape first.begins (rw c.from.ensures at rw c.from-2.ensures at c.in_ok-put_in.ensures.put))
    (rw c.index_key.ensures at c.in_ok-cut_in.ensures.cut))
    (rw c.index_key-place.ensures at c.in_ok-put_in-2.ensures.put) in
    leads_when g.W.Words g.W.Shape.Shape _ _ _ _ _ all.begins c.requires.known
    (λ x y known. moved c.args.shape.now c.args.id c.args.rank c.args.content c.requires.id c.requires.content x y c.requires.rank c.args.was
    c.requires.other known c.in_ok-put_in.field-0 c.in_ok-put_in-2.field-0 c.in_ok-cut_in.field-0)
    all.leads

pub returns-clause-stands : goal.returns-clause-stands
returns-clause-stands g c =
    let goes = goes_then (goes_then c.in_ok-put_in.ensures.goes_on c.in_ok-cut_in.ensures.goes_on) c.in_ok-put_in-2.ensures.goes_on in
    put_stands g.W.Words g.W.Shape.Shape c.args.shape.now goes.shape goes.begins c.requires.stands _ _ _ _ (returns-clause-put g c)
