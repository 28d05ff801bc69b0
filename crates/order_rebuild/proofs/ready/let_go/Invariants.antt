use Rattle.order_rebuild.proofs.Common.{◌≡◌, ℕ, suc, ◌<◌, heap_items, places, item_at, AreGone, AreStopped, AreWaits, AreClosed, KeepsReady}
use Rattle.order_rebuild.proofs.ready.let_go.Given as goal

abbrev pub invariant-down : goal.invariant-down
invariant-down l = record {
  own : (e : ℕ) → l.at ≡ suc e → (e < places l.lines) × (item_at l.lines e ≡ l.p);
  gone : AreGone l.lines l.left l.next;
  stopped : AreStopped l.lines l.left l.next l.p l.at;
  waits : AreWaits l.lines l.next l.wait;
  closed : AreClosed l.lines l.next l.wait (λ e. ⊥);
  ready : KeepsReady l.lines l.initial.wait (heap_items l.initial.ready) l.wait (heap_items l.ready);
}

abbrev pub decreases-down : goal.decreases-down
decreases-down l = l.at
