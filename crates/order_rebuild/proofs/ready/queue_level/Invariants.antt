use Rattle.order_rebuild.proofs.Common.{◌≡◌, ◌≤◌, heap_items, first_at, AreWaits, AreClosed, KeepsReady}
use Rattle.order_rebuild.proofs.ready.queue_level.Given as goal

abbrev pub invariant-loop-i : goal.invariant-loop-i
invariant-loop-i l = record {
  waits : AreWaits l.lines l.next l.wait;
  closed : AreClosed l.lines l.next l.wait (λ e. (first_at l.lines e ≡ l.start) × (l.i ≤ e));
  ready : KeepsReady l.lines l.initial.wait (heap_items l.initial.ready) l.wait (heap_items l.ready);
}
