use Rattle.record_text.proofs.Common.{ℕ, List}
use Rattle.record_text.proofs.Indexes.{IsIndexed}
use Rattle.std.specs.FinMap as finite
use Rattle.record_text.proofs.store.Store.index.Given as goal

-- the index has the records so far
abbrev pub invariant-loop-id : goal.invariant-loop-id
invariant-loop-id l = (earlier : List (ℕ × (ℕ × ℕ)))
    × IsIndexed (finite.entries l.self.records) earlier l.id-iterator l.index.entries
