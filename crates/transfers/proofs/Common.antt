-- What several proofs of this crate import.
pub use Rattle.std.proofs.Common.{arith, ◌+◌, ◌<◌, ◌≡◌, ◌^◌, ◌∙◌, refl, sym, ℕ, List, [], ◌≤◌, ap, sum, subst, true, ◌++◌, ◌∷◌, false, slice_set, get_or, take}
pub use Rattle.std.proofs.Common.{slice_get, ◌≢◌, None, Some, length, slice_index, ◌-◌}
pub use Rattle.std.proofs.lemmas.List.{take_all}
pub use Rattle.std.proofs.lemmas.List.Sums.{sum_by_more, sum_by_more_le}
pub use Rattle.std.proofs.lemmas.Option.{same_Some, slice_get-get_or}
pub use Rattle.std.specs.Prelude.{⊤}
pub use Rattle.transfers.specs.Counting.{AddsWhereFits}
pub use Rattle.transfers.specs.Moving.{HasSum, moved}
pub use Rattle.txn.proofs.Common.{Leads, Trace, Read, Fits, WasRead, after, was_read, EndsWithWrite, SomeFits, fits_read, fits_write_end, was_put, get_set_same}
pub use Rattle.txn.proofs.Common.{nothing_yet}
