-- What several proofs of this crate import.
pub use Rattle.std.proofs.Common.{◌∙◌, ◌≡◌, ap, sym, subst, ℕ, List, arith, length, refl, ◌+◌, ◌<◌, Bool, [], map, take, ◌∷◌, All, false, rules, true, ◌++◌}
pub use Rattle.std.proofs.Common.{◌≤◌, None, Some, cond, zero-add, ◌==◌, ◌≢◌}
pub use Rattle.std.proofs.lemmas.List.Elements.{All-map}
pub use Rattle.std.proofs.lemmas.List.Sums.{sum_by-cons}
pub use Rattle.std.proofs.lemmas.Option.{slice_get-get_or}
pub use Rattle.std.specs.List.{range_with_len}
pub use Rattle.std.specs.Ordering.{nat_cmp}
pub use Rattle.std.specs.Prelude.{count_by}
pub use Rattle.std.specs.Slice.Iter.{iter_rest}
pub use mathlib.Core.Logic.{dite}
pub use native.Mathlib.Decide.{ℕ_discrete}
pub use Rattle.books_report.proofs.Common.{Step, run_from, IsPlaceOf, Place}
pub use Rattle.books_report.specs.Journals.{RanOf}
pub use Rattle.books_report.specs.Stores.Interpreter.{outcome_of}
pub use Rattle.books_report.specs.Stores.Output.{state_left, text_of}
pub use Rattle.books_report.specs.declared.stores.reply.StoreReply.{StoreReply}
pub use Rattle.history_model.proofs.Common.{IsIn, Begins}
pub use Rattle.script_reader.specs.Journal.{IsJournalOf}
pub use Rattle.txn_alloc.proofs.Common.{KeepsOthers}
pub use Rattle.txn_commit.proofs.Common.{AreOnceInOrder}
pub use Rattle.txn_commit.specs.declared.lists.Done.{Done}
pub use Rattle.txn_stores.specs.Days.{IsDay}
pub use Rattle.txn_stores.specs.Journals.{line_of_done, place_of_done, script_count}
pub use Rattle.txn_stores.specs.Standing.{ScriptMeans, ScriptOn, StandsForSome, is_done}
pub use Rattle.txn_words.proofs.CallLaws.{leads_from_start, leads_then}
pub use Rattle.txn_words.proofs.Common.{after, Fits, begins_refl, begins_trans, count_writes, InEachState, LeadsTo}
pub use Rattle.txn_words.specs.Verdicts.{answer_of, is_kept}
