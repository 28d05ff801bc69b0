-- What several proofs of this crate import.
pub use Rattle.std.proofs.Common.{◌≡◌, ap, ◌∙◌, [], ℕ, sym, ◌∷◌, List, Some, length, refl, subst, ◌++◌, slice_get, ◌<◌, arith, slice_set, inr, inl, suc, zero}
pub use Rattle.std.proofs.Common.{◌≤◌, ◌+◌, Err, Ok, Option, Result, true, ◌⊎◌}
pub use Rattle.std.proofs.lemmas.List.{append_assoc, append-nil}
pub use Rattle.std.proofs.lemmas.Option.{get_or_from_slice_get, same_Some, slice_get_read, slice_get_within}
pub use Rattle.history_model.proofs.Common.{Trace, Begins, Notes, Writes}
pub use Rattle.history_model.proofs.Traces.FittingLaws.{fits_begins, each_at, fits_front, leads_at}
pub use Rattle.history_model.proofs.Traces.MarkLaws.{notes_counted}
pub use Rattle.history_model.proofs.Traces.TraceLaws.{after-append, begins_trans, after_read, begins_refl, length-after}
pub use Rattle.history_model.specs.Fitting.{Fits, InEach, Leads, SomeFits}
pub use Rattle.history_model.specs.Marks.{count_writes}
pub use Rattle.history_model.specs.Traces.{after}
pub use Rattle.history_model.specs.Undoing.{written_back}
pub use Rattle.history_model.specs.declared.event.Event.{Event}
pub use Rattle.history_model.specs.declared.event.Event.TheVariants.{Read, Write}
pub use Rattle.txn_words.specs.Calls.{LeadsTo, InEachState, WritesOnly}
pub use Rattle.txn_words.specs.Frames.{AppendsOnly, AppendsReads}
pub use Rattle.txn_words.specs.Marks.{PutsBack}
pub use Rattle.txn_words.specs.Steps.{EndsWithWrite}
pub use Rattle.txn_words.specs.declared.words.Stop.{Stop}
