use Rattle.input_maker.proofs.Common.{string_bytes, position_line}
use Rattle.input_maker.proofs.Listing.{written_none, positions-none, positions_written}
use Rattle.input_maker.proofs.books.write_positions.Goals as goal

pub loop-place-init : goal.loop-place-init
loop-place-init c = written_none position_line positions-none

pub loop-place-preserved : goal.loop-place-preserved
loop-place-preserved c =
    positions_written (string_bytes c.args.text.now)
    c.loop-place.place c.loop-place.invariant c.in_ok-write_positions_of.ensures
