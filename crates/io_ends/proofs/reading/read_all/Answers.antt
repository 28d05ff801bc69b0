use Rattle.io_ends.proofs.Common.{arith, take, ◌++◌, common_steps}
use Rattle.io_ends.proofs.Pieces.{Consumes-append}
use Rattle.io_ends.proofs.reading.read_all.Goals as goal

pub returns-in_err-extend_from_slice-clause-taken : goal.returns-in_err-extend_from_slice-clause-taken
returns-in_err-extend_from_slice-clause-taken g c =
    let source = g.S.Source in
    let piece = take c.in_ok-n.n c.read.new.buf in (
      c.loop-chunk.bytes.items ++ piece,
      Consumes-append (source.left c.args.source.now) (source.left c.loop-chunk.source) (source.left c.read.new.self)
          c.loop-chunk.bytes.items piece c.loop-chunk.invariant.kept c.in_ok-n.ensures.bytes.0,
      grind (arith, common_steps, c.in_ok-n.ensures.bound),
    )
