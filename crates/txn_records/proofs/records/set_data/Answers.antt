use Rattle.txn_records.proofs.Common.{leads_when}
use Rattle.txn_records.proofs.Calls.{good_trees, put_stands}
use Rattle.txn_records.proofs.Puts.{data_set}
use Rattle.txn_records.proofs.records.set_data.Goals as goal

pub put_in-requires-clause-trees : goal.put_in-requires-clause-trees
put_in-requires-clause-trees g c = record { at = λ s fit. good_trees c.args.shape.now _ (c.requires.stands.at s fit) }

pub returns-clause-put : goal.returns-clause-put
returns-clause-put g c =
    let goes = c.in_ok-put_in.ensures.goes_on in
    leads_when g.W.Words g.W.Shape.Shape _ _ _ _ _ goes.begins c.requires.known
    (λ x y known. data_set c.args.shape.now c.args.id c.args.rank c.args.content c.requires.id c.requires.content x y known c.in_ok-put_in.field-0)
    (rw c.index_key.ensures at c.in_ok-put_in.ensures.put)

pub returns-clause-stands : goal.returns-clause-stands
returns-clause-stands g c =
    let goes = c.in_ok-put_in.ensures.goes_on in
    put_stands g.W.Words g.W.Shape.Shape c.args.shape.now goes.shape goes.begins c.requires.stands _ _ _ _ (returns-clause-put g c)
