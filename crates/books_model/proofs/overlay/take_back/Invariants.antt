use Rattle.books_model.proofs.Common.{ℕ, keys_of, IsStrictlySortedBy, KnowBefore, IsRoomier}
use Rattle.std.specs.FinMap as map
use Rattle.books_model.proofs.overlay.take_back.Given as goal

-- room is left for the changes that are left alone
abbrev pub invariant-loop-key : goal.invariant-loop-key
invariant-loop-key g l = record {
  ordered : IsStrictlySortedBy g.K.Ord.cmp (keys_of l.key-iterator);
  left : (before : map.FinMap g.K.Ord.cmp ℕ) → KnowBefore before l.fn.changes.entries
      → IsRoomier l.fn.changes.entries before (map.from_entries {R = g.K.Ord.cmp} l.fn.values.entries)
      → KnowBefore before l.key-iterator × IsRoomier l.key-iterator before (map.from_entries {R = g.K.Ord.cmp} l.values.entries);
}
