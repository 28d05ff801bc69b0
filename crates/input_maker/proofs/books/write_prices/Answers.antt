use Rattle.input_maker.proofs.Common.{◌+◌, ◌*◌, string_bytes, price_line, written_next, prices_to}
use Rattle.input_maker.proofs.Listing.{written_none, prices-more, prices-none}
use Rattle.input_maker.proofs.books.write_prices.Goals as goal

pub loop-place-init : goal.loop-place-init
loop-place-init c = written_none price_line prices-none

pub loop-place-preserved : goal.loop-place-preserved
loop-place-preserved c =
    let place = c.loop-place.place in
    written_next (string_bytes c.args.text.now) (string_bytes c.loop-place.text) (string_bytes c.write_price.new.text)
    price_line (prices_to place) (prices_to (place + 1)) (place + 1, 100 * (place + 1))
    c.loop-place.invariant (rw c.from.ensures at c.in_ok-write_price.ensures) (prices-more place)
