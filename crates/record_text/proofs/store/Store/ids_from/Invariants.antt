use Rattle.record_text.proofs.Common.{List, index_of}
use Rattle.record_text.proofs.Listing.{Entry, IsListed}
use Rattle.std.specs.FinMap as finite
use Rattle.record_text.proofs.store.Store.ids_from.Given as goal

-- of the index the earlier entries are listed
abbrev pub invariant-loop-of : goal.invariant-loop-of
invariant-loop-of l = (earlier : List Entry)
    × IsListed l.rank l.most (finite.entries (index_of l.self.records)) earlier l.of-iterator l.ids
