use Rattle.order_rebuild.proofs.Common.{◌≡◌, ℕ, List, Some, slice_get, take, length, heap_items, Spot, items, AreLines, IsNext}
use Rattle.order_rebuild.proofs.Open.{IsRest}
use Rattle.order_rebuild.proofs.Come.{IsState}
use Rattle.order_rebuild.proofs.Marks.{count_open}
use Rattle.order_rebuild.proofs.placing.place_all.Given as goal

abbrev pub invariant-all : goal.invariant-all
invariant-all l = record {
  sized : length l.left ≡ items l.lines;
  rest : (list : List Spot) → AreLines list l.lines → IsRest list l.out.items l.left;
  each : (list : List Spot) → AreLines list l.lines → (i p : ℕ) → slice_get l.out.items i ≡ Some p → IsNext list (take i l.out.items) p;
  state : IsState l.lines l.left l.next l.wait (heap_items l.ready);
}

abbrev pub decreases-all : goal.decreases-all
decreases-all l = count_open l.left
