use Rattle.txn_books.proofs.OnBooks.Calls.{leads_when, leads_cut, changed_stands}
use Rattle.txn_books.proofs.OnBooks.Accounts.{tree_apart_there, account_removed}
use Rattle.txn_books.proofs.cash.remove_account.Goals as goal

pub remove-requires-clause-order : goal.remove-requires-clause-order
remove-requires-clause-order g c = rw c.tree.ensures (record { at = λ s fit. tree_apart_there c.args.shape.now _ (c.requires.stands.at s fit) })

pub returns-clause-changed : goal.returns-clause-changed
returns-clause-changed g c =
    let removed = rw c.from.ensures at rw c.tree.ensures at c.in_ok-remove.ensures.removed in
    let frame = rw c.from.ensures at rw c.tree.ensures at c.in_ok-remove.ensures.frame in
    leads_when c.in_ok-remove.ensures.goes_on.begins c.requires.nothing
    (account_removed c.args.shape.now c.args.account c.in_ok-remove.field-0)
    (leads_cut removed frame)

pub returns-clause-stands : goal.returns-clause-stands
returns-clause-stands g c =
    changed_stands c.in_ok-remove.ensures.goes_on c.requires.stands _ (returns-clause-changed g c)
