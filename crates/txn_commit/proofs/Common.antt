-- What several proofs of this crate import.
pub use Rattle.std.proofs.Common.{◌≡◌, ◌∙◌, sym, ℕ, ap, subst, length, arith, ◌<◌, [], refl, List, Some, ◌≤◌, ◌+◌, ◌∷◌, ◌++◌, slice_get, Bool, get_or, true}
pub use Rattle.std.proofs.Common.{All, None, Option, map, ◌≢◌, suc, false, inr, zero, ⊎_elim, AllPairs, take, length-append, slice_index, Result, append_assoc}
pub use Rattle.std.proofs.Common.{flat_map, inl, ◌⊎◌, Err, Ok, rules, subst₂, ◌%◌, IfSome, OnErr, cond, eq-eqb, slice_set, ◌==◌, ◌↔◌}
pub use Rattle.std.proofs.lemmas.List.{length-map, append-nil, take_all, map_push, take_more}
pub use Rattle.std.proofs.lemmas.List.Concat.{flat_map-cons}
pub use Rattle.std.proofs.lemmas.List.Elements.{All-append, All-push, All-weaker}
pub use Rattle.std.proofs.lemmas.List.FromFn.{get_or-range_with_len, length-range_with_len}
pub use Rattle.std.proofs.lemmas.List.Kept.{AllPairs-cons}
pub use Rattle.std.proofs.lemmas.Option.{slice_get_within, get_or_from_slice_get, slice_get-get_or}
pub use Rattle.std.proofs.lemmas.Result.{IfOk-from_err}
pub use Rattle.std.specs.List.{range_with_len, filter}
pub use Rattle.std.specs.Vec.Iter.{into_iter_items, into_iter_len}
pub use mathlib.Core.Logic.{dite}
pub use native.Mathlib.Decide.{dec_lt, ℕ_discrete}
pub use Rattle.history_model.proofs.Histories.ReplayLaws.{replay_kept, replay_nothing, replay_reverted}
pub use Rattle.history_model.proofs.ListPlaces.{map_at}
pub use Rattle.history_model.specs.Histories.{replay}
pub use Rattle.history_model.specs.Undoing.{notes_of}
pub use Rattle.history_model.specs.declared.TheConstants.{LOCKS}
pub use Rattle.history_model.specs.declared.entry.Abandoned.{Abandoned}
pub use Rattle.history_model.specs.declared.entry.Entry.{Entry}
pub use Rattle.history_model.specs.declared.event.Cause.{Cause}
pub use Rattle.history_model.specs.declared.event.Event.TheVariants.{Read, Write}
pub use Rattle.history_model.specs.declared.item.Item.{Item}
pub use Rattle.history_model.specs.declared.item.LockUse.{LockUse}
pub use Rattle.history_model.specs.declared.placed.Spot.{Spot}
pub use Rattle.history_model.specs.declared.view.Phase.{Phase}
pub use Rattle.history_model.specs.declared.view.Phase.TheVariants.{Running, Idle, Yielding, Releasing, Withdrawing}
pub use Rattle.history_model.specs.declared.view.View.{View}
pub use Rattle.lock_or_yield.proofs.Common.{number, IsIn, lock_of_word, DeskView, has, HasWriteGrant, RuleHolds, Asks, has_pair, GainsAtMost, MeetsAndYields}
pub use Rattle.lock_or_yield.proofs.Common.{WentOn, AreRestartsBounded}
pub use Rattle.order_rebuild.proofs.Common.{at_map, below_get, IsOrder, Orderable}
pub use Rattle.order_rebuild.proofs.Stuck.{order_keeps}
pub use Rattle.txn_commit.specs.Attempts.{IsSoundAttempt, stop_of, GaveWayTo, StandsAs, StaysInCall, start_of, DidEvents, StillRuns}
pub use Rattle.txn_commit.specs.Inner.Asking.{AsksForWord}
pub use Rattle.txn_commit.specs.Inner.ListWork.{HasRun, RanFirst, RanList, IsMade, Made}
pub use Rattle.txn_commit.specs.Inner.Releasing.{Releases, Undoes, UndoesSome}
pub use Rattle.txn_commit.specs.Jobs.{count_jobs}
pub use Rattle.txn_commit.specs.Lists.{jobs_of_first, AreOnceInOrder, HaveRecords, indexes_of, IsEntryOf}
pub use Rattle.txn_commit.specs.Ordered.{AreAt, IsRunInOrder, AreRecorded, IsRebuilt, spot_of}
pub use Rattle.txn_commit.specs.Transactions.{LeavesFootprint, AsksItsFootprint, EndsWithoutEntry, GetsEntry}
pub use Rattle.txn_commit.specs.Uses.{ListsUses}
pub use Rattle.txn_commit.specs.declared.attempt.Halt.{Halt}
pub use Rattle.txn_commit.specs.declared.attempt.TheConstants.{UNDO_ROOM}
pub use Rattle.txn_commit.specs.declared.lists.Done.{Done}
pub use Rattle.txn_commit.specs.declared.transaction.Receipt.{Receipt}
pub use Rattle.txn_threads.proofs.Common.{PassView, IsCoherent, IsLegalInEachOrder}
pub use Rattle.txn_threads.specs.Passes.{IsNext}
pub use Rattle.txn_words.proofs.Common.{Trace, after, count_writes, Notes, Fits, SomeFits}
pub use Rattle.txn_words.proofs.GoingBack.{GoneBack}
pub use Rattle.undo_log.specs.Room.{Room}
pub use Rattle.values_rule.proofs.Common.{IsLegalTrace, replay_items, uses_of, locks_of, after_commit}
pub use Rattle.values_rule.proofs.Told.ItemsIn.{IsAttemptOf, in_flat_map}
pub use Rattle.word_table.proofs.Common.{IsGood, ClosedView, HasClaim, differ, has-nil, IsGranted, entry_of, in_first, entry_from, item_of_entry}
pub use Rattle.word_table.proofs.Common.{items_of_entry, Knew, begin_call_action, store_value_action, IsLeast, AreUsesOf, locks_found, WaitedForCause}
pub use Rattle.word_table.specs.Calls.{ReadsArranged}
pub use Rattle.word_table.specs.Closing.{AreRecords, items_of_closed}
pub use Rattle.word_table.specs.Desks.{AreGoodWords}
pub use Rattle.word_table.specs.Versions.{HasUseOf}
