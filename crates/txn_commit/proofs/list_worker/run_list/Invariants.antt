use Rattle.txn_commit.proofs.Common.{◌≡◌, Idle, number, AreGoodWords, HasRun, RanList}
use Rattle.txn_commit.proofs.list_worker.run_list.Given as goal

-- the caller's jobs before this index were run
abbrev pub invariant-loop-index : goal.invariant-loop-index
invariant-loop-index g l = record {
  table : l.pass.table ≡ l.fn.pass.table;
  idle : l.pass.view.phase ≡ Idle;
  who : l.pass.view.who ≡ l.fn.pass.view.who;
  run : HasRun (AreGoodWords g.L.Shape.Shape l.desk) (g.L.Lists.means l.lists) l.desk.seats (number l.fn.pass.view) l.pass.view l.done.items;
  list : RanList l.caller l.index l.fn.done.items l.done.items;
}
