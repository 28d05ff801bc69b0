use Rattle.input_maker.proofs.Common.{◌+◌, string_bytes, position_line, written_next, positions_in}
use Rattle.input_maker.proofs.Listing.{written_none, positions_in-more, positions_in-none}
use Rattle.input_maker.proofs.books.write_positions_of.Goals as goal

pub loop-place-init : goal.loop-place-init
loop-place-init c = written_none position_line (positions_in-none c.args.account)

pub loop-place-preserved : goal.loop-place-preserved
loop-place-preserved c =
    let place = c.loop-place.place in
    written_next (string_bytes c.args.text.now) (string_bytes c.loop-place.text)
    (string_bytes c.write_position.new.text) position_line (positions_in c.args.account place)
    (positions_in c.args.account (place + 1)) ((c.args.account, place + 1), 100)
    c.loop-place.invariant c.in_ok-write_position.ensures (positions_in-more c.args.account place)
