-- What several proofs of this crate import.
pub use Rattle.std.proofs.Common.{ap, ◌≡◌, ◌∙◌, ℕ, subst, refl, sym, arith, List, [], ◌<◌, ◌∷◌, true, ◌+◌, false, slice_index, ◌≤◌, Bool, inl, inr, length}
pub use Rattle.std.proofs.Common.{⊎_elim, suc, ◌++◌, ◌≢◌, Some, if◌then◌else◌, zero, ◌==◌, ◌⊎◌, ◌%◌, ◌-◌, ◌^◌, Option, None, slice_set, slice_get, ◌*◌, ◌/◌}
pub use Rattle.std.proofs.Common.{rules, eq-eqb, get_or-set_other, ne_eqb, get_or-set_same, length-append, length-set, drop, replicate, vec_len, sum_by, take}
pub use Rattle.std.proofs.Common.{vec_capacity, ◌&&◌}
pub use Rattle.std.proofs.lemmas.Bool.{cases_lt, eqb-true}
pub use Rattle.std.proofs.lemmas.List.{set-get_or}
pub use Rattle.std.proofs.lemmas.Nat.Bits.{bit_at-trailing_zeros, bit_at-zero, bit_at_and, bit_at_clear_other, bit_at_clear_same}
pub use Rattle.std.proofs.lemmas.Option.{slice_get_within, same_Some, slice_get-get_or}
pub use Rattle.std.proofs.lemmas.Result.{IfOk-from_err}
pub use Rattle.std.specs.Int.{bit_at, bit_not, trailing_zeros}
pub use Rattle.std.specs.List.{filter, range_with_len}
pub use Rattle.std.specs.Prelude.{bit_and, count_ones, bit_or}
pub use Rattle.std.specs.Slots.{slots_items}
pub use lib.ListN.{get_elem?}
pub use mathlib.Core.Logic.{dite}
pub use mathlib.Core.Option.{some, some-injective, some-ne-none}
pub use mir.Syntax.{w64}
pub use native.Mathlib.Decide.{ℕ_discrete}
pub use prog.Atomic.{either}
pub use Rattle.atomic_table.specs.Seated.{TableId}
pub use Rattle.atomic_table.specs.Table.{Me, State, Splits, Allows, Final, Seen}
pub use Rattle.history_model.proofs.ListPlaces.{get_first}
pub use Rattle.history_model.proofs.SetLemmas.{has-without_same, pair-join_same, pair-without_other, without-absent}
pub use Rattle.history_model.proofs.Views.Changes.{JoinTouches, NewByCut, NewByJoin, NewByStep, StepTouches, change_cut, change_join, change_step}
pub use Rattle.history_model.proofs.Views.Places.{added_there}
pub use Rattle.history_model.specs.Conflicts.{IsAt}
pub use Rattle.history_model.specs.Counts.{calls_sum}
pub use Rattle.history_model.specs.Fitting.{IsGood}
pub use Rattle.history_model.specs.Sets.{without_first}
pub use Rattle.history_model.specs.Table.{TableState, table_words}
pub use Rattle.history_model.specs.declared.TheConstants.{LOCKS}
pub use Rattle.history_model.specs.declared.entry.Entry.{Entry}
pub use Rattle.history_model.specs.declared.event.Cause.{Cause}
pub use Rattle.history_model.specs.declared.event.Event.TheVariants.{Read}
pub use Rattle.history_model.specs.declared.item.Item.{Item}
pub use Rattle.history_model.specs.declared.item.LockUse.{LockUse}
pub use Rattle.history_model.specs.declared.view.Phase.{Phase}
pub use Rattle.history_model.specs.declared.view.Phase.TheVariants.{Idle, Running, Releasing, Yielding, Withdrawing}
pub use Rattle.history_model.specs.declared.view.View.{View}
pub use Rattle.locks_rule.proofs.Common.{HasClaim, HasBit, after_asking, after_meeting, writer_word, row_word, has-join, HasReadGrant, AskedFor}
pub use Rattle.locks_rule.proofs.Joining.{has-append}
pub use Rattle.locks_rule.proofs.Own.{own_number, lock_near, is_own, other_number}
pub use Rattle.locks_rule.proofs.Readers.{free_cases}
pub use Rattle.locks_rule.specs.Actions.{Action, views_after, words_after}
pub use Rattle.locks_rule.specs.Joins.{after_joining, after_note, left_by_note, note_of, MayJoinSeats, MayMeetNote, spent_view, views_joined, KeepsJoin}
pub use Rattle.locks_rule.specs.Splits.{left_by_split, given_by_split, opening_view, MaySplitSeat}
pub use Rattle.locks_rule.specs.Steps.{is_free, released_phase, claim_writer_action, clear_read_bit_action, load_writer_action, scan_row_action}
pub use Rattle.locks_rule.specs.Steps.{set_read_bit_action, release_writer_action}
pub use Rattle.stamps_rule.proofs.Asides.{notes_same}
pub use Rattle.stamps_rule.proofs.Bounds.{restarts_bounded}
pub use Rattle.stamps_rule.proofs.CauseLists.{past_added, pending_yielding}
pub use Rattle.stamps_rule.proofs.Common.{without, after_restarting, after_waiting, after_judgement, judged, stamps_word, clock_word, has_pair, StampsHold}
pub use Rattle.stamps_rule.proofs.Common.{MayJudgeStamp, after_giving_way, load_cause_stamp_action, past_causes, MayLoadCauseStamp, draw_stamp_action, picked}
pub use Rattle.stamps_rule.proofs.Common.{is_yielding, newest, shown_stamp, announce_stamp_action, judge_stamp_action}
pub use Rattle.stamps_rule.proofs.StampKinds.{judge_stamp_stamps}
pub use Rattle.stamps_rule.specs.Stamps.{AreRestartsBounded}
pub use Rattle.values_rule.proofs.Common.{has, number, Knows, differ, has-join_same, IsIn, lock_of_word, LocksHold, found_by, has-nil, same_view, value_word}
pub use Rattle.values_rule.proofs.Common.{has-without, is_open, flag, calls_word, version_word, own, IsGranted, IsSeat, undoing_phase, bool_cases, has-join_old}
pub use Rattle.values_rule.proofs.Common.{not_true, put_here, is_attempt, has-one, put_cases, commits_word, Notes, load_version_action, item_of_entry}
pub use Rattle.values_rule.proofs.Common.{IsRecorded, begin_call_action, entry_of, load_value_action, store_value_action, get_last, has-without_other, Change}
pub use Rattle.values_rule.proofs.Common.{put_there, AgreeWithVersions, Trace, gains, store_version_action, items_of_entry, Knew, MayBeginCall, MayLoadValue}
pub use Rattle.values_rule.proofs.Common.{clear_stamp_action, commit_call_action, undo_store_action, ValuesHold}
pub use Rattle.values_rule.proofs.CutsAndJoins.Gains.{gains_first, gains_second, gains_cases}
pub use Rattle.values_rule.proofs.Members.{none_in, in_join, in_first, in_second}
pub use Rattle.values_rule.proofs.Told.ItemsIn.{entry_from}
pub use Rattle.values_rule.proofs.Whole.Legality.{place}
pub use Rattle.values_rule.specs.Steps.{known_value}
pub use Rattle.word_table.specs.Calls.{judged_of, ScannedBy, ClaimedBy, FindsVersion, GrantsStay, JudgedBy, Looked, MakesSeen, SharedBy, with_bit}
pub use Rattle.word_table.specs.Closing.{AreAllPasses, ClosedView, writes_of}
pub use Rattle.word_table.specs.Copies.{PassView, ShowsLocks, ShowsOthers, IsVersionCopy, ShowsPairs, fresh_pass, IsCopy}
pub use Rattle.word_table.specs.Desks.{DeskHolds, DeskView, RuleHolds}
pub use Rattle.word_table.specs.Gathering.{IsGathered}
pub use Rattle.word_table.specs.Inner.Unsharing.{ClearsMore}
pub use Rattle.word_table.specs.Kinds.{action_of, May, TakenIn, Grows, Stores}
pub use Rattle.word_table.specs.Least.{IsLeast}
pub use Rattle.word_table.specs.Meetings.{view_after, StandsElsewhere, IsReached}
pub use Rattle.word_table.specs.Runs.{IsRun, Steps, CutsSeat, Joins, TakesNote, TakesStep}
pub use Rattle.word_table.specs.Sound.{IsSound, GroundHolds, numbers, opening_words}
pub use Rattle.word_table.specs.Unscanned.{IsUnscanned}
pub use Rattle.word_table.specs.Unsharing.{rising}
pub use Rattle.word_table.specs.Uses.{ListsBelow, AreUsesOf}
pub use Rattle.word_table.specs.Versions.{locks_found, VersionsBounded}
pub use Rattle.word_table.specs.Waits.{WaitsAtLock, WaitsForCause, FoundWait, WaitedForCause, WaitsFor}
pub use Rattle.word_table.specs.declared.answer.Claimed.{Claimed}
pub use Rattle.word_table.specs.declared.answer.Judged.{Judged}
pub use Rattle.word_table.specs.declared.answer.Scanned.{Scanned}
pub use Rattle.word_table.specs.declared.answer.Shared.{Shared}
pub use Rattle.word_table.specs.declared.copies.CallCopy.{CallCopy}
pub use Rattle.word_table.specs.declared.copies.LockCopy.{LockCopy}
pub use Rattle.word_table.specs.declared.copies.VersionCopy.{VersionCopy}
pub use Rattle.word_table.specs.declared.limits.TheConstants.{MOST_PASSES, MOST_WORDS}
pub use Rattle.word_table.specs.declared.step.Step.{Step}
pub use Rattle.word_table.specs.declared.step.Step.TheVariants.{BeginCall, JudgeStamp, AnnounceStamp, ClaimWriter, DrawStamp, LoadCauseStamp, LoadValue}
pub use Rattle.word_table.specs.declared.step.Step.TheVariants.{ReleaseWriter, ClearReadBit, ClearStamp, CommitCall, LoadVersion, LoadWriter, ScanRow}
pub use Rattle.word_table.specs.declared.step.Step.TheVariants.{SetReadBit, StoreValue, StoreVersion, UndoStore}
