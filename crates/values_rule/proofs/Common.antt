-- What several proofs of this crate import.
pub use Rattle.std.proofs.Common.{◌≡◌, ap, sym, ℕ, ◌∙◌, List, ⊎_elim, [], arith, true, refl, subst, Some, ◌∷◌, false, inl, inr, ◌≢◌, ◌<◌, ◌⊎◌, length}
pub use Rattle.std.proofs.Common.{slice_set, slice_get, None, slice_index, ◌++◌, Bool, suc, zero, ◌+◌, ◌≤◌, get_or-set_other, IsSome, eq-eqb, ne_eqb, ◌&&◌}
pub use Rattle.std.proofs.Common.{Option, get_or-set_same, if◌then◌else◌, ◌-◌, ◌^◌, take, ◌||◌}
pub use Rattle.std.proofs.lemmas.Bool.{and_parts, or_cases, or_left, or_right}
pub use Rattle.std.proofs.lemmas.Option.{slice_get_within, same_Some}
pub use Rattle.std.specs.List.{flat_map}
pub use Rattle.std.specs.Prelude.{◌==◌, nat_lt}
pub use mathlib.Core.Logic.{dite}
pub use mathlib.Core.Option.{some-injective, some-ne-none}
pub use native.Mathlib.Decide.{ℕ_discrete, dec_lt}
pub use Rattle.history_model.proofs.Common.{IsIn, Notes, lock_of_word, Touches, Writes, Uses, Trace, IsArrangement, AgreeWithVersions}
pub use Rattle.history_model.proofs.Items.ItemDrops.{drops_agree, drops_arranged, drops_values}
pub use Rattle.history_model.proofs.Items.ItemEnds.{arranged, ends_agree, ends_arranged, ends_moved}
pub use Rattle.history_model.proofs.Items.ItemOrders.{is_newest}
pub use Rattle.history_model.proofs.ListPlaces.{get_cases, get_last, same_list}
pub use Rattle.history_model.proofs.SetLemmas.{bool_cases}
pub use Rattle.history_model.proofs.Traces.EndEvents.{last_event, touched_if_written}
pub use Rattle.history_model.proofs.Traces.LastEvents.{get-after-value_after, last_from_touched}
pub use Rattle.history_model.proofs.Traces.TraceAgree.{legal_agree}
pub use Rattle.history_model.proofs.Views.Changes.{Change}
pub use Rattle.history_model.proofs.Views.Places.{put_cases}
pub use Rattle.history_model.specs.Arrangements.{Drops, Adds, MayStandLast, RaisesVersions, passing}
pub use Rattle.history_model.specs.Counts.{is_open, is_attempt}
pub use Rattle.history_model.specs.Items.{replay_items, value_at}
pub use Rattle.history_model.specs.Table.{value_word, commits_word, version_word, calls_word, serial_word}
pub use Rattle.history_model.specs.Traces.{IsLegalTrace, value_after, after}
pub use Rattle.history_model.specs.Views.{IsGranted, number, HasWriteGrant}
pub use Rattle.history_model.specs.declared.TheConstants.{LOCKS}
pub use Rattle.history_model.specs.declared.entry.Abandoned.{Abandoned}
pub use Rattle.history_model.specs.declared.entry.Entry.{Entry}
pub use Rattle.history_model.specs.declared.event.Event.TheVariants.{Read, Write}
pub use Rattle.history_model.specs.declared.item.Item.{Item}
pub use Rattle.history_model.specs.declared.item.LockUse.{LockUse}
pub use Rattle.history_model.specs.declared.view.Phase.{Phase}
pub use Rattle.history_model.specs.declared.view.Phase.TheVariants.{Idle, Releasing, Running, Withdrawing, Yielding}
pub use Rattle.history_model.specs.declared.view.View.{View}
pub use Rattle.locks_rule.proofs.Common.{Knows, has, LocksHold, same_view, differ, flag, put_here, put_there, IsSeat, has-join_same, has-nil, not_true}
pub use Rattle.locks_rule.proofs.Common.{has-join_old, has-one, has-without, has-without_other}
pub use Rattle.locks_rule.proofs.Own.{own, Own}
pub use Rattle.locks_rule.specs.Actions.{found_by}
pub use Rattle.locks_rule.specs.Joins.{gains}
pub use Rattle.locks_rule.specs.Versions.{MayLoadVersion, MayStoreVersion, load_version_action, locks_of, store_version_action, uses_of, writes_lock}
pub use Rattle.values_rule.specs.History.{now_of, items_of, next_version, owed_by, knew_of, version_at, last_call, item_of_entry, item_of_attempt}
pub use Rattle.values_rule.specs.History.{items_of_entry}
pub use Rattle.values_rule.specs.Keeping.{KeepsValueRule, SameValueWords, SameValues}
pub use Rattle.values_rule.specs.Records.{IsRecorded, AreCauses, CallsCounted, RecordsClosed, Knew}
pub use Rattle.values_rule.specs.Steps.{MayCommitCall, MayBeginCall, MayClearStamp, MayLoadValue, MayStoreValue, MayUndoStore, after_commit, begin_call_action}
pub use Rattle.values_rule.specs.Steps.{clear_stamp_action, commit_call_action, entry_of, load_value_action, store_value_action, undo_store_action}
pub use Rattle.values_rule.specs.Steps.{undoing_phase}
pub use Rattle.values_rule.specs.Undone.{memory_of}
pub use Rattle.values_rule.specs.Values.{oldest, table_value, TraceCurrent, UndoRestores}
pub use Rattle.values_rule.specs.Versions.{ValuesHold, ItemsArranged}
