use Rattle.txn_books.proofs.Common.{chain_part, chains_of, position_key_of, LeadsTo}
use Rattle.txn_books.proofs.OneState.Standing.{cut_keeps, put_keeps}
use Rattle.txn_books.proofs.OnBooks.Calls.{IsPut, IsCut, leads_when, leads_put, leads_cut, room_stands}
use Rattle.txn_books.proofs.OnBooks.Holdings.{MayHold, chains_apart_there, place_of, quantity_put, quantity_cut}
use Rattle.txn_books.proofs.quantity.set_quantity.Goals.{In_ok-remove, In_ok-put}
use Rattle.txn_books.proofs.quantity.set_quantity.Goals as goal

pub position_key-key-requires : goal.position_key-key-requires
position_key-key-requires g c =
    let some = g.met.W.Words.fits c.args.w.now c.requires.ready.sound in
    let good = c.requires.stands.at some.0 some.1 in
    let may : MayHold c.args.account c.args.instrument good.0 =
    (c.requires.account.at some.0 some.1 good.0 good.1, c.requires.price.at some.0 some.1 good.0 good.1) in
    record { instrument = (place_of good.0 good.1.range c.args.account c.args.instrument may).1 }

pub remove-requires-clause-order : goal.remove-requires-clause-order
remove-requires-clause-order g c = rw c.chains.ensures (record { at = λ s fit. chains_apart_there c.args.shape.now _ (c.requires.stands.at s fit) })

-- what the removal did in each state
cut : (g : _) (c : In_ok-remove g) → LeadsTo g.W.Words g.W.Shape.Shape c.args.w.now c.remove.new.w
    (IsCut (chain_part (chains_of c.args.shape.now)) (position_key_of c.args.account c.args.instrument) c.in_ok-remove.field-0)
cut g c =
    leads_cut
    (rw c.position_key-key.ensures at rw c.chains.ensures at c.in_ok-remove.ensures.removed)
    (rw c.position_key-key.ensures at rw c.chains.ensures at c.in_ok-remove.ensures.frame)

pub returns-then-quantity-eq0-clause-held : goal.returns-then-quantity-eq0-clause-held
returns-then-quantity-eq0-clause-held g c =
    leads_when c.in_ok-remove.ensures.goes_on.begins
    (record { at = λ s fit books stand. (c.requires.account.at s fit books stand, c.requires.price.at s fit books stand) })
    (quantity_cut c.args.shape.now c.args.account c.args.instrument c.args.quantity c.if-quantity-eq0.true c.in_ok-remove.field-0)
    (cut g (goal.at.returns-then-quantity-eq0-clause-held g c).In_ok-remove)

pub returns-then-quantity-eq0-clause-stands : goal.returns-then-quantity-eq0-clause-stands
returns-then-quantity-eq0-clause-stands g c =
    room_stands c.in_ok-remove.ensures.goes_on c.requires.stands (returns-then-quantity-eq0-clause-held g c)

pub returns-then-quantity-eq0-clause-blocks : goal.returns-then-quantity-eq0-clause-blocks
returns-then-quantity-eq0-clause-blocks g c =
    leads_when c.in_ok-remove.ensures.goes_on.begins c.requires.stands
    (λ x y good k. cut_keeps c.args.shape.now x y (position_key_of c.args.account c.args.instrument) good.0 good.1 k.keeps
    c.in_ok-remove.field-0 k.removes) (cut g (goal.at.returns-then-quantity-eq0-clause-blocks g c).In_ok-remove)

pub insert-requires-clause-order : goal.insert-requires-clause-order
insert-requires-clause-order g c = rw c.chains-2.ensures (record { at = λ s fit. chains_apart_there c.args.shape.now _ (c.requires.stands.at s fit) })

-- what the insert did in each state
put : (g : _) (c : In_ok-put g) → LeadsTo g.W.Words g.W.Shape.Shape c.args.w.now c.insert.new.w
    (IsPut (chain_part (chains_of c.args.shape.now)) (position_key_of c.args.account c.args.instrument) c.args.quantity c.in_ok-put.put)
put g c =
    leads_put
    (rw c.position_key-key.ensures at rw c.chains-2.ensures at c.in_ok-put.ensures.put)
    (rw c.position_key-key.ensures at rw c.chains-2.ensures at c.in_ok-put.ensures.full)
    (rw c.position_key-key.ensures at rw c.chains-2.ensures at c.in_ok-put.ensures.frame)

pub returns-clause-held : goal.returns-clause-held
returns-clause-held g c =
    rw c.has_room.ensures (leads_when c.in_ok-put.ensures.goes_on.begins
    (record { at = λ s fit books stand. (c.requires.account.at s fit books stand, c.requires.price.at s fit books stand) })
    (quantity_put c.args.shape.now c.args.account c.args.instrument c.args.quantity c.if-quantity-eq0.false c.requires.range c.in_ok-put.put)
    (put g (goal.at.returns-clause-held g c).In_ok-put))

pub returns-clause-stands : goal.returns-clause-stands
returns-clause-stands g c =
    room_stands c.in_ok-put.ensures.goes_on c.requires.stands (returns-clause-held g c)

pub returns-clause-blocks : goal.returns-clause-blocks
returns-clause-blocks g c =
    leads_when c.in_ok-put.ensures.goes_on.begins c.requires.stands
    (λ x y good k. put_keeps c.args.shape.now x y (position_key_of c.args.account c.args.instrument) good.0 good.1 k.keeps c.args.quantity
    c.in_ok-put.put k.inserts) (put g (goal.at.returns-clause-blocks g c).In_ok-put)
