use Rattle.order_rebuild.proofs.Knows.{known_to, starts_to, starts_from}
use Rattle.order_rebuild.proofs.tallied.may_start.Goals as goal

pub returns-clause-is : goal.returns-clause-is
returns-clause-is g c = λ known.
    let spot = g.P.Placed.spot in let done = c.args.done.now in let lane = c.args.lane.now in let us = c.uses.result.now in
    let x = c.index-done-lane.result in
    let is = c.is_due.ensures.is (known_to spot done c.args.tallies.now lane x us c.if-lane.false c.requires c.index-done-lane.is c.uses.ensures
    c.args.known.now known) in (
      λ t. starts_from spot done c.args.tallies.now lane x us c.if-lane.false c.requires c.index-done-lane.is c.uses.ensures (is.0 t),
      λ s. is.1 (starts_to spot done c.args.tallies.now lane x us c.if-lane.false c.requires c.index-done-lane.is c.uses.ensures s),
    )
