use Rattle.books_model.proofs.Common.{◌≡◌, keys_of, IsStrictlySortedBy, HasRoomFor, changed}
use Rattle.std.specs.FinMap as map
use Rattle.books_model.proofs.overlay.apply_changes.Given as goal

-- the changes that are left lead to the same map, and there is room for them
abbrev pub invariant-loop-key : goal.invariant-loop-key
invariant-loop-key g l = record {
  ordered : IsStrictlySortedBy g.K.Ord.cmp (keys_of l.key-iterator);
  room : HasRoomFor (map.from_entries {R = g.K.Ord.cmp} l.values.entries) l.key-iterator;
  rest : changed (map.from_entries {R = g.K.Ord.cmp} l.values.entries) l.key-iterator
      ≡ changed (map.from_entries {R = g.K.Ord.cmp} l.fn.values.entries) l.fn.changes.entries;
}
