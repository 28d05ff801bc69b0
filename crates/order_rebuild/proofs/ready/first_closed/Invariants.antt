use Rattle.order_rebuild.proofs.Common.{◌≡◌, ℕ, suc, ◌<◌, ◌≤◌, places, item_at, IsOpen}
use Rattle.order_rebuild.proofs.ready.first_closed.Given as goal

abbrev pub invariant-down : goal.invariant-down
invariant-down l = record {
  own : (e : ℕ) → l.at ≡ suc e → (e < places l.lines) × (item_at l.lines e ≡ l.q);
  above : (i : ℕ) → i < places l.lines → item_at l.lines i ≡ l.q → l.at ≤ i → IsOpen l.lines l.next i;
}

abbrev pub decreases-down : goal.decreases-down
decreases-down l = l.at
