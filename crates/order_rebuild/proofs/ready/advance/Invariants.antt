use Rattle.order_rebuild.proofs.Common.{◌≡◌, ◌≢◌, ℕ, ◌-◌, slice_index, heap_items, places, AreGone, AreWaits, AreClosed, KeepsReady}
use Rattle.order_rebuild.proofs.ready.advance.Given as goal

abbrev pub invariant-on : goal.invariant-on
invariant-on l = record {
  gone : AreGone l.lines l.left l.next;
  waits : AreWaits l.lines l.next l.wait;
  closed : AreClosed l.lines l.next l.wait (λ e. ⊥);
  others : (b : ℕ) → b ≢ l.line → slice_index l.next b ≡ slice_index l.initial.next b;
  ready : KeepsReady l.lines l.initial.wait (heap_items l.initial.ready) l.wait (heap_items l.ready);
}

abbrev pub decreases-on : goal.decreases-on
decreases-on l = places l.lines - slice_index l.next l.line
