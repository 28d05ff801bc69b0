use Rattle.txn_books.proofs.Common.{arith}
use Rattle.txn_books.proofs.ReadOff.Filling.{position_at}
use Rattle.txn_books.proofs.OneState.ChainedChanges.{no_price}
use Rattle.txn_books.proofs.read.add_positions.Goals as goal

pub overflow_cast-account : goal.overflow_cast-account
overflow_cast-account c =
    let k = (position_at c.args.entries.now c.loop-key.key-index c.loop-key-test.true
    (no_price _ (omega (arith, c.if-key-instruments.true, c.from-instruments.ensures))) (c.loop-key.invariant c.requires.0 c.requires.1)) in
    let most = k.new.number.1 in
    rw c.from-instruments.ensures (omega (arith, most))

pub add_position-requires-clause-account : goal.add_position-requires-clause-account
add_position-requires-clause-account c =
    rw c.from-instruments.ensures (position_at c.args.entries.now c.loop-key.key-index c.loop-key-test.true
    (no_price _ (omega (arith, c.if-key-instruments.true, c.from-instruments.ensures))) (c.loop-key.invariant c.requires.0 c.requires.1)).new.owner

pub add_position-requires-clause-price : goal.add_position-requires-clause-price
add_position-requires-clause-price c =
    rw c.from-instruments.ensures (position_at c.args.entries.now c.loop-key.key-index c.loop-key-test.true
    (no_price _ (omega (arith, c.if-key-instruments.true, c.from-instruments.ensures))) (c.loop-key.invariant c.requires.0 c.requires.1)).new.price

pub add_position-requires-clause-quantity : goal.add_position-requires-clause-quantity
add_position-requires-clause-quantity c = (position_at c.args.entries.now c.loop-key.key-index c.loop-key-test.true
    (no_price _ (omega (arith, c.if-key-instruments.true, c.from-instruments.ensures))) (c.loop-key.invariant c.requires.0 c.requires.1)).new.quantity_range

pub add_position-requires-clause-room : goal.add_position-requires-clause-room
add_position-requires-clause-room c = (position_at c.args.entries.now c.loop-key.key-index c.loop-key-test.true
    (no_price _ (omega (arith, c.if-key-instruments.true, c.from-instruments.ensures))) (c.loop-key.invariant c.requires.0 c.requires.1)).new.room
