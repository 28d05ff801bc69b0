use Rattle.txn_commit.proofs.Common.{AreGoodWords}
use Rattle.txn_commit.proofs.UnderWay.{IsUnderWay}
use Rattle.txn_commit.proofs.list_worker.run_own.Given as goal

-- of the callers before this one those of the pass were run
abbrev pub invariant-loop-caller : goal.invariant-loop-caller
invariant-loop-caller g l = IsUnderWay (AreGoodWords g.L.Shape.Shape l.desk) (g.L.Lists.means l.lists) (g.L.Lists.jobs l.lists)
    l.workers l.desk.seats l.fn.pass l.caller l.pass l.done.items
