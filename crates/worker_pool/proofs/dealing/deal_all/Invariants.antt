use Rattle.worker_pool.proofs.Common.{AreDealtInTurn, AreStill}
use Rattle.worker_pool.proofs.dealing.deal_all.Given as goal

-- the callers so far are dealt
abbrev pub invariant-loop-caller : goal.invariant-loop-caller
invariant-loop-caller l = record {
  still : AreStill l.fn.owners.items l.owners.items;
  dealt : AreDealtInTurn l.caller l.owners.items l.left.items;
}
