use Rattle.txn_books.proofs.OnBooks.Calls.{leads_when, leads_put, room_stands}
use Rattle.txn_books.proofs.OnBooks.Accounts.{tree_apart_there, account_opened}
use Rattle.txn_books.proofs.cash.open_account.Goals as goal

pub insert-requires-clause-order : goal.insert-requires-clause-order
insert-requires-clause-order g c = rw c.tree.ensures (record { at = λ s fit. tree_apart_there c.args.shape.now _ (c.requires.stands.at s fit) })

pub returns-clause-opened : goal.returns-clause-opened
returns-clause-opened g c =
    let shape = c.args.shape.now in
    let put = rw c.from.ensures at rw c.tree.ensures at c.in_ok-put.ensures.put in
    let full = rw c.from.ensures at rw c.tree.ensures at c.in_ok-put.ensures.full in
    let frame = rw c.from.ensures at rw c.tree.ensures at c.in_ok-put.ensures.frame in
    rw c.has_room.ensures (leads_when c.in_ok-put.ensures.goes_on.begins
    c.requires.absent (account_opened shape c.args.account c.requires.account c.in_ok-put.put)
    (leads_put put full frame))

pub returns-clause-stands : goal.returns-clause-stands
returns-clause-stands g c =
    room_stands c.in_ok-put.ensures.goes_on c.requires.stands (returns-clause-opened g c)
