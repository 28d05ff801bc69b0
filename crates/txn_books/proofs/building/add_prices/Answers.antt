use Rattle.txn_books.proofs.Common.{sym, subst, nat_cmp, IsWithin, BooksShape, with_accounts, IsBuilt, above}
use Rattle.txn_books.proofs.ReadOff.Growing.{number_next, one_less, prices_first, price_step, number_done}
use Rattle.std.specs.FinMap as entry_map
use Rattle.txn_books.proofs.building.add_prices.Goals as goal

pub loop-instrument-init : goal.loop-instrument-init
loop-instrument-init c = record { done = entry_map.empty; built = c.requires.accounts; left = prices_first c.ranges-2.ensures }

pub add_price-requires-clause-books : goal.add_price-requires-clause-books
add_price-requires-clause-books c =
    let was = c.loop-instrument.invariant in
    let k = (price_step c.ranges-2.ensures was.done c.loop-instrument.last was.left
    (c.in-Some.instrument, c.in-Some.price) c.in-Some.ensures.first).0 in
    (record (with_accounts c.args.books.now) { prices = was.done }, was.built, k.absent, k.room)

pub add_price-requires-clause-instrument : goal.add_price-requires-clause-instrument
add_price-requires-clause-instrument c =
    let was = c.loop-instrument.invariant in
    let k = (price_step c.ranges-2.ensures was.done c.loop-instrument.last was.left
    (c.in-Some.instrument, c.in-Some.price) c.in-Some.ensures.first).0 in
    subst (λ (z : BooksShape). IsWithin 1 z.instruments c.in-Some.instrument) (sym c.requires.shape) k.number

pub add_price-requires-clause-price : goal.add_price-requires-clause-price
add_price-requires-clause-price c =
    let was = c.loop-instrument.invariant in
    (price_step c.ranges-2.ensures was.done c.loop-instrument.last was.left (
      c.in-Some.instrument,
      c.in-Some.price,
    ) c.in-Some.ensures.first).0.price_range

pub loop-instrument-smaller : goal.loop-instrument-smaller
loop-instrument-smaller c =
    one_less (c.in-Some.instrument, c.in-Some.price)
    (above nat_cmp c.loop-instrument.last (entry_map.entries c.args.books.now.prices))
    (above nat_cmp c.in-Some.instrument (entry_map.entries c.args.books.now.prices))
    (number_next c.loop-instrument.last (c.in-Some.instrument, c.in-Some.price) c.args.books.now.prices c.in-Some.ensures.first)

pub loop-instrument-preserved : goal.loop-instrument-preserved
loop-instrument-preserved c =
    let was = c.loop-instrument.invariant in
    let k = price_step c.ranges-2.ensures was.done c.loop-instrument.last was.left
    (c.in-Some.instrument, c.in-Some.price) c.in-Some.ensures.first in
    record {
      done = entry_map.insert was.done c.in-Some.instrument c.in-Some.price;
      built = c.in_ok-words.ensures (record (with_accounts c.args.books.now) { prices = was.done }) was.built;
      left = k.1;
    }

pub returns : goal.returns
returns c =
    let was = c.loop-instrument.invariant in
    subst (λ m. IsBuilt c.args.shape.now c.loop-instrument.words.items (record (with_accounts c.args.books.now) { prices = m }))
    (number_done c.args.books.now.prices was.done c.loop-instrument.last was.left c.in_default.ensures.first) was.built
