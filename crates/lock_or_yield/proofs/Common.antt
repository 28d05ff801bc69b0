-- What several proofs of this crate import.
pub use Rattle.std.proofs.Common.{refl, ap, subst, sym, ◌∙◌, ℕ, ◌≡◌, [], List, ◌<◌, ◌∷◌, inl, inr, true, None, Some, arith, length, suc, zero, Bool, false}
pub use Rattle.std.proofs.Common.{if◌then◌else◌, ⊎_elim, ◌++◌, ◌+◌, ◌==◌, ◌-◌, ◌≢◌, ◌⊎◌}
pub use Rattle.std.proofs.lemmas.List.{append-nil}
pub use Rattle.history_model.proofs.SetLemmas.{has-join_other}
pub use Rattle.history_model.specs.declared.event.Cause.{Cause}
pub use Rattle.history_model.specs.declared.view.Phase.TheVariants.{Running}
pub use Rattle.history_model.specs.declared.view.View.{View}
pub use Rattle.lock_or_yield.specs.Asking.{Asks, GainsAtMost, WentOn, with_locks, AsksToRead, AsksToWrite, GainsOn, MeetsAndYields, MeetsSome, draws_once}
pub use Rattle.lock_or_yield.specs.Intents.{AsksTo, ComesTo, MeetsFirst, TurnsOnce}
pub use Rattle.lock_or_yield.specs.Turns.{ScansClear, JudgedToYield}
pub use Rattle.lock_or_yield.specs.declared.turn.Intent.{Intent}
pub use Rattle.values_rule.proofs.Common.{HasWriteGrant}
pub use Rattle.word_table.proofs.Common.{lock_of_word, has, number, RuleHolds, has_pair, IsIn, after_meeting, GrantsStay, DeskView, has-join_same}
pub use Rattle.word_table.proofs.Common.{pair-join_same, after_asking, load_writer_action, scan_row_action, AreRestartsBounded, SharedBy, DeskHolds}
pub use Rattle.word_table.proofs.Common.{IsUnscanned}
pub use Rattle.word_table.specs.Calls.{MetOn, GaveWay, SameCall}
