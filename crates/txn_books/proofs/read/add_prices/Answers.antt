use Rattle.txn_books.proofs.Common.{arith}
use Rattle.txn_books.proofs.ReadOff.Filling.{price_at}
use Rattle.txn_books.proofs.OneState.ChainedChanges.{is_price}
use Rattle.txn_books.proofs.read.add_prices.Goals as goal

pub add_price-requires-clause-instrument : goal.add_price-requires-clause-instrument
add_price-requires-clause-instrument c =
    (price_at c.args.entries.now c.loop-key.key-index c.loop-key-test.true
    (is_price _ (omega (arith, c.if-key-from.true, c.from.ensures))) (c.loop-key.invariant c.requires.0 c.requires.1)).new.number

pub add_price-requires-clause-price : goal.add_price-requires-clause-price
add_price-requires-clause-price c =
    (price_at c.args.entries.now c.loop-key.key-index c.loop-key-test.true
    (is_price _ (omega (arith, c.if-key-from.true, c.from.ensures))) (c.loop-key.invariant c.requires.0 c.requires.1)).new.price_range

pub add_price-requires-clause-room : goal.add_price-requires-clause-room
add_price-requires-clause-room c =
    (price_at c.args.entries.now c.loop-key.key-index c.loop-key-test.true
    (is_price _ (omega (arith, c.if-key-from.true, c.from.ensures))) (c.loop-key.invariant c.requires.0 c.requires.1)).new.room
