-- What several proofs of this crate import.
pub use Rattle.std.proofs.Common.{length, ◌≡◌, ap, sym, arith, map, subst, List, get_or, ℕ, ◌∙◌, All, false, ◌++◌, ◌<◌, Some, [], refl, slice_get, ⊎_elim, ◌∷◌}
pub use Rattle.std.proofs.lemmas.List.{length-map}
pub use Rattle.std.proofs.lemmas.Option.{get_or_from_slice_get, slice_get_cases}
pub use Rattle.std.specs.Vec.Iter.{into_iter_items, into_iter_len}
pub use Rattle.txn_threads.specs.Clients.{HaveWorkedAt}
pub use Rattle.txn_threads.specs.Inner.Seats.{AreParts, HasEnded, IsReady}
pub use Rattle.txn_threads.specs.Passes.{AreNew, IsFresh, IsPass}
pub use Rattle.txn_threads.specs.declared.seat.Seat.{Seat}
pub use Rattle.word_table.proofs.Common.{PassView, DeskView}
pub use Rattle.word_table.specs.Closing.{IsCoherent, IsLegalInEachOrder}
