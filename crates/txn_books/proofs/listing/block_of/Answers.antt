use Rattle.txn_books.proofs.Common.{◌+◌, ◌-◌, ◌≤◌, length, sym, arith, block_at}
use Rattle.txn_books.proofs.ReadOff.Walked.{four_words}
use Rattle.txn_books.proofs.listing.block_of.Goals as goal

pub returns : goal.returns
returns c j le =
    let long : block_at c.args.arena.now (c.args.name - 1) + 4 ≤ length c.args.words.now = c.requires.laid_out.blocks (c.args.name - 1) (omega arith) in
    rw (sym c.place_of-place.ensures) (four_words c.args.words.now c.place_of-place.result j (omega (arith, long, c.place_of-place.ensures)) le)
