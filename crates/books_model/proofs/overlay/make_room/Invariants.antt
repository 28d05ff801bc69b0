use Rattle.std.specs.FinMap as map
use Rattle.books_model.proofs.Common.{keys_of, IsStrictlySortedBy}
use Rattle.books_model.proofs.Maps.Changes.{IsMaking}
use Rattle.books_model.proofs.overlay.make_room.Given as goal

-- room is being made for the changes that are left
abbrev pub invariant-loop-key : goal.invariant-loop-key
invariant-loop-key g l = record {
  ordered : IsStrictlySortedBy g.K.Ord.cmp (keys_of l.key-iterator);
  making : IsMaking (map.from_entries {R = g.K.Ord.cmp} l.fn.values.entries) l.fn.changes.entries
      (map.from_entries {R = g.K.Ord.cmp} l.values.entries) l.key-iterator;
}
