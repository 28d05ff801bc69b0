-- What several proofs of this crate import.
pub use Rattle.std.proofs.Common.{◌≡◌, ◌+◌, ◌*◌, ◌∙◌, ap, sym, arith, length, [], ◌∷◌, List, ℕ, subst, take, ◌<◌, ◌≤◌, refl, Some, slice_get, ◌⊎◌, inl, inr}
pub use Rattle.std.proofs.Common.{slice_set, ◌-◌, ⊎_elim, ◌++◌, get_or, replicate, slice_index, ◌%◌, ◌≢◌, drop, suc, sum_by, true, zero, ◌^◌, Bool, None}
pub use Rattle.std.proofs.Common.{add-zero, false, if◌then◌else◌, ◌==◌}
pub use Rattle.std.proofs.lemmas.Bool.Decides.{eqb_tells}
pub use Rattle.std.proofs.lemmas.List.{length-set, get_or-set_same, get_or-replicate, get_or-set_other}
pub use Rattle.std.proofs.lemmas.Option.{get_or_from_slice_get, slice_get_within, same_Some}
pub use Rattle.history_model.proofs.Common.{Begins, IsIn, Trace}
pub use Rattle.history_model.proofs.Traces.FittingLaws.{some_at}
pub use Rattle.history_model.specs.declared.entry.Entry.{Entry}
pub use Rattle.history_model.proofs.ListPlaces.{below_get}
pub use Rattle.txn_cells.specs.Adding.{AreAllCells, AddsInRound, added_by, added_to, first_cell, second_cell, sums_of}
pub use Rattle.txn_cells.specs.Cells.{AreCells, AreCellValues, IsOfCell, cell_words}
pub use Rattle.txn_cells.specs.Inner.Puts.{PutsWords, HasWords}
pub use Rattle.txn_cells.specs.Rounds.{HasRounds, IsRound, AreSoMany}
pub use Rattle.txn_cells.specs.Typed.{DoesTyped, TypedTrace}
pub use Rattle.txn_cells.specs.declared.limits.TheConstants.{CELLS, MOST_ROUNDS}
pub use Rattle.txn_cells.specs.declared.typed.TypedEvent.TheVariants.{Get, Set}
pub use Rattle.txn_commit.proofs.Common.{AreRecords}
pub use Rattle.txn_threads.proofs.Common.{IsCoherent, IsLegalInEachOrder}
pub use Rattle.txn_words.proofs.CallLaws.{each_plain, leads_then, state_after}
pub use Rattle.txn_words.proofs.Common.{after, Fits, Leads, InEachState, LeadsTo, begins_trans, SomeFits, fits_begins, length-after, InEach, AppendsOnly}
pub use Rattle.txn_words.proofs.Common.{AppendsReads}
pub use Rattle.txn_words.proofs.FrameLaws.{only_then}
pub use Rattle.txn_words.proofs.Listed.{map_ok}
pub use Rattle.txn_words.proofs.ReadLaws.{sees_then}
pub use Rattle.txn_words.specs.Looks.{Looks}
pub use Rattle.values_rule.proofs.Common.{number}
pub use Rattle.word_table.proofs.Common.{IsGood, ClosedView, PassView}
pub use Rattle.word_table.specs.Closing.{AreSeenBy}
pub use Rattle.word_table.specs.declared.limits.TheConstants.{MOST_PASSES}
