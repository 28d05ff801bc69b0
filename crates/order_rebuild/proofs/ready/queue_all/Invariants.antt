use Rattle.order_rebuild.proofs.Common.{◌≤◌, heap_items, AreWaits, AreClosed, KeepsReady}
use Rattle.order_rebuild.proofs.ready.queue_all.Given as goal

abbrev pub invariant-loop-i : goal.invariant-loop-i
invariant-loop-i l = record {
  waits : AreWaits l.lines l.next l.wait;
  closed : AreClosed l.lines l.next l.wait (λ e. l.i ≤ e);
  ready : KeepsReady l.lines l.initial.wait (heap_items l.initial.ready) l.wait (heap_items l.ready);
}
