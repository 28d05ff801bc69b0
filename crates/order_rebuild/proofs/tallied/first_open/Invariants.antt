use Rattle.order_rebuild.proofs.Common.{◌≡◌, ℕ, ◌<◌, ◌≤◌, length, map, slice_get, Some, AreKnownUses, MayStart, Lane}
use Rattle.order_rebuild.proofs.tallied.first_open.Given as goal

abbrev pub invariant-loop-at : goal.invariant-loop-at
invariant-loop-at g l = record {
  low : l.from ≤ l.at;
  count : length l.known ≡ length l.lanes;
  known : AreKnownUses (map g.P.Placed.spot l.done) l.tallies l.lanes l.initial.known
      → AreKnownUses (map g.P.Placed.spot l.done) l.tallies l.lanes l.known;
  none : (i : ℕ) (lane : Lane) → l.from ≤ i → i < l.at
      → AreKnownUses (map g.P.Placed.spot l.done) l.tallies l.lanes l.initial.known
      → slice_get l.lanes i ≡ Some lane → MayStart (map g.P.Placed.spot l.done) l.tallies lane → ⊥;
}
