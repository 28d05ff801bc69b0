use Rattle.txn_commit.proofs.Common.{◌<◌, arith, slice_get_within}
use Rattle.txn_commit.proofs.ordered.are_in_turn.Goals as goal

pub returns-clause-each : goal.returns-clause-each
returns-clause-each c told i p there =
    let within : i < _ = slice_get_within c.args.places.now i p there in
    c.loop-place.invariant.each i p (omega (arith, within, c.loop-place-test.false)) there
