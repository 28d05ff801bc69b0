use Rattle.io_ends.proofs.Common.{arith, length, take, ◌-◌, common_steps}
use Rattle.io_ends.proofs.Pieces.{prefix_and_piece, rest_of_rest, Appends-append}
use Rattle.io_ends.proofs.writing.write_all_of.Goals as goal

pub loop-rest-preserved : goal.loop-rest-preserved
loop-rest-preserved g c =
    let sink = g.K.Sink in
    let kept = c.loop-rest.invariant in
    let rest = c.loop-rest.rest.now in
    let text = c.args.text.now in
    let back = c.split_at.ensures.back in
    let written = Appends-append (sink.taken c.args.sink.now) (sink.taken c.loop-rest.sink)
    (sink.taken c.write.new.self) (take (length text - length rest) text) (take c.in_ok-n.n rest) kept.written c.in_ok-n.ensures.bytes in
    record {
      within = grind (arith, common_steps);
      rest = rw back (rest_of_rest text rest c.in_ok-n.n kept.rest kept.within c.in_ok-n.ensures.bound);
      written = rw (back, ← prefix_and_piece text rest c.in_ok-n.n kept.rest kept.within c.in_ok-n.ensures.bound) written;
      faults = omega (arith, c.in_ok-n.ensures.faults);
    }
