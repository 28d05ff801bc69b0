use Rattle.txn_books.proofs.OnBooks.Calls.{changed_stands}
use Rattle.txn_books.proofs.OnBooks.Accounts.{tree_apart_there, leads_balance}
use Rattle.txn_books.proofs.cash.set_balance.Goals as goal

pub set_stored-requires-clause-order : goal.set_stored-requires-clause-order
set_stored-requires-clause-order g c =
    rw c.tree.ensures (record { at = λ s fit. tree_apart_there c.args.shape.now _ (c.requires.stands.at s fit) })

pub set_stored-requires-clause-held : goal.set_stored-requires-clause-held
set_stored-requires-clause-held g c = rw c.tree.ensures (rw c.from.ensures c.requires.held)

pub returns-clause-changed : goal.returns-clause-changed
returns-clause-changed g c =
    let put = rw c.from.ensures at rw c.tree.ensures at c.in_ok-set_stored.ensures.put in
    let frame = rw c.tree.ensures at c.in_ok-set_stored.ensures.frame in
    leads_balance g.W.Words g.W.Shape.Shape c.args.shape.now _ _ c.args.account c.args.amount c.args.block c.requires.range
    c.in_ok-set_stored.ensures.goes_on.begins c.requires.held put frame

pub returns-clause-frame : goal.returns-clause-frame
returns-clause-frame g c = rw c.tree.ensures at c.in_ok-set_stored.ensures.frame

pub returns-clause-reads : goal.returns-clause-reads
returns-clause-reads g c = rw c.tree.ensures at c.in_ok-set_stored.ensures.reads

pub returns-clause-blocks : goal.returns-clause-blocks
returns-clause-blocks g c = rw c.tree.ensures at c.in_ok-set_stored.ensures.blocks

pub returns-clause-stands : goal.returns-clause-stands
returns-clause-stands g c =
    changed_stands c.in_ok-set_stored.ensures.goes_on c.requires.stands _ (returns-clause-changed g c)
