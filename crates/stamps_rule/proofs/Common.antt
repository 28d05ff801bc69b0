-- What several proofs of this crate import.
pub use Rattle.std.proofs.Common.{List, ℕ, ◌≡◌, arith, [], sym, ◌∙◌, ap, refl, true, ◌∷◌, ◌≢◌, ⊎_elim, Some, false, if◌then◌else◌, slice_index, slice_set}
pub use Rattle.std.proofs.Common.{subst, ◌<◌, Bool, inl, inr, ◌++◌, ◌+◌, ◌≤◌, ◌⊎◌, None, suc, ◌==◌, Option, eq-eqb, get_or-set_other, get_or-set_same, length}
pub use Rattle.std.proofs.Common.{ne_eqb, slice_get, zero, ◌&&◌, ◌-◌}
pub use Rattle.std.proofs.lemmas.List.{set-get_or}
pub use Rattle.std.proofs.lemmas.Option.{same_Some}
pub use mathlib.Core.Logic.{dite}
pub use native.Mathlib.Decide.{ℕ_discrete}
pub use Rattle.history_model.proofs.Common.{IsIn}
pub use Rattle.history_model.proofs.SetLemmas.{empty-has}
pub use Rattle.history_model.specs.Table.{stamps_word, clock_word, calls_word}
pub use Rattle.history_model.specs.declared.entry.Abandoned.{Abandoned}
pub use Rattle.history_model.specs.declared.entry.Entry.{Entry}
pub use Rattle.history_model.specs.declared.event.Cause.{Cause}
pub use Rattle.history_model.specs.declared.view.Phase.{Phase}
pub use Rattle.history_model.specs.declared.view.Phase.TheVariants.{Idle, Running, Yielding, Releasing, Withdrawing}
pub use Rattle.history_model.specs.declared.view.View.{View}
pub use Rattle.locks_rule.proofs.Asides.{picked}
pub use Rattle.locks_rule.proofs.Common.{Knows, has, differ, LocksHold, has-nil, has-without, not_true, flag, without, IsSeat, has-one, has_pair}
pub use Rattle.locks_rule.proofs.Counting.{calls_below-same}
pub use Rattle.locks_rule.proofs.Own.{own}
pub use Rattle.locks_rule.specs.Actions.{found_by}
pub use Rattle.stamps_rule.specs.Asides.{IsStampWord, NotesMeetings, SameStamps}
pub use Rattle.stamps_rule.specs.Causes.{past_causes, pending_of, waited_of, is_yielding, newest, older}
pub use Rattle.stamps_rule.specs.Keeping.{KeepsStamps}
pub use Rattle.stamps_rule.specs.Stamps.{StampsHold, AreSeatsDistinct, WasMet, is_idle, is_unstamped, shown_stamp, GoesAfter, Shows, draws_of, unstamped_count}
pub use Rattle.stamps_rule.specs.Steps.{MayAnnounceStamp, MayDrawStamp, MayJudgeStamp, MayLoadCauseStamp, after_giving_way, after_judgement, after_restarting}
pub use Rattle.stamps_rule.specs.Steps.{after_waiting, announce_stamp_action, draw_stamp_action, judge_stamp_action, judged, load_cause_stamp_action}
