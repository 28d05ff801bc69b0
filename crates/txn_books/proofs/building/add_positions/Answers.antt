use Rattle.txn_books.proofs.Common.{subst, position_cmp, with_prices, IsBuilt, above}
use Rattle.txn_books.proofs.ReadOff.Growing.{one_less, positions_first, position_found, position_step, positions_done}
use Rattle.std.specs.FinMap as entry_map
use Rattle.txn_books.proofs.building.add_positions.Goals as goal

pub loop-account-init : goal.loop-account-init
loop-account-init c = record { done = entry_map.empty; built = c.requires.prices; left = positions_first c.ranges-2.ensures }

pub add_position-requires-clause-books : goal.add_position-requires-clause-books
add_position-requires-clause-books c =
    let was = c.loop-account.invariant in
    let k = (position_step c.ranges-2.ensures was.done c.loop-account.last was.left c.in-Some.account
    c.in-Some.instrument c.in-Some.quantity c.in-Some.ensures.first).0 in
    (record (with_prices c.args.books.now) { positions = was.done }, was.built, k.owner, k.price, k.absent, k.room)

pub add_position-requires-clause-quantity : goal.add_position-requires-clause-quantity
add_position-requires-clause-quantity c =
    let was = c.loop-account.invariant in
    (position_step c.ranges-2.ensures was.done c.loop-account.last was.left c.in-Some.account
    c.in-Some.instrument c.in-Some.quantity c.in-Some.ensures.first).0.quantity_range

pub loop-account-smaller : goal.loop-account-smaller
loop-account-smaller c =
    let was = c.loop-account.invariant in
    one_less ((c.in-Some.account, c.in-Some.instrument), c.in-Some.quantity)
    (above position_cmp c.loop-account.last (entry_map.entries c.args.books.now.positions))
    (above position_cmp (c.in-Some.account, c.in-Some.instrument) (entry_map.entries c.args.books.now.positions))
    (position_found c.ranges-2.ensures was.done c.loop-account.last was.left c.in-Some.account
    c.in-Some.instrument c.in-Some.quantity c.in-Some.ensures.first)

pub loop-account-preserved : goal.loop-account-preserved
loop-account-preserved c =
    let was = c.loop-account.invariant in
    let k = position_step c.ranges-2.ensures was.done c.loop-account.last was.left c.in-Some.account
    c.in-Some.instrument c.in-Some.quantity c.in-Some.ensures.first in
    record {
      done = entry_map.insert was.done (c.in-Some.account, c.in-Some.instrument) c.in-Some.quantity;
      built = c.in_ok-words.ensures (record (with_prices c.args.books.now) { positions = was.done }) was.built;
      left = k.1;
    }

pub returns : goal.returns
returns c =
    let was = c.loop-account.invariant in
    subst (λ m. IsBuilt c.args.shape.now c.loop-account.words.items (record (with_prices c.args.books.now) { positions = m }))
    (positions_done c.ranges-2.ensures was.done c.loop-account.last was.left c.in_default.ensures.first) was.built
