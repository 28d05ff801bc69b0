use Rattle.txn_books.proofs.OnBooks.Calls.{leads_less, leads_put, room_stands}
use Rattle.txn_books.proofs.OnBooks.Holdings.{chains_apart_there, price_put}
use Rattle.txn_books.proofs.price.put_price.Goals as goal

pub insert-requires-clause-order : goal.insert-requires-clause-order
insert-requires-clause-order g c = rw c.chains.ensures (record { at = λ s fit. chains_apart_there c.args.shape.now _ (c.requires.stands.at s fit) })

pub returns-clause-priced : goal.returns-clause-priced
returns-clause-priced g c =
    let shape = c.args.shape.now in
    let put = rw c.price_key.ensures at rw c.chains.ensures at c.in_ok-put.ensures.put in
    let full = rw c.price_key.ensures at rw c.chains.ensures at c.in_ok-put.ensures.full in
    let frame = rw c.price_key.ensures at rw c.chains.ensures at c.in_ok-put.ensures.frame in
    rw c.has_room.ensures (leads_less
    (price_put shape c.args.instrument c.requires.instrument c.args.price c.requires.range c.in_ok-put.put)
    (leads_put put full frame))

pub returns-clause-stands : goal.returns-clause-stands
returns-clause-stands g c =
    room_stands c.in_ok-put.ensures.goes_on c.requires.stands (returns-clause-priced g c)
