-- What several proofs of this crate import.
pub use Rattle.std.proofs.Common.{ℕ, ◌≡◌, [], ◌∷◌, List, refl, ◌∙◌, length, sym, Some, ap, arith, zero, slice_get, suc, ◌++◌, inl, inr, ⊎_elim, ◌<◌, ◌⊎◌}
pub use Rattle.std.proofs.Common.{slice_set, subst, true, Bool, ◌≢◌, eq-eqb, false, ne_eqb, None, Option, if◌then◌else◌, take, ◌==◌, ◌≤◌, slice_index, ◌&&◌}
pub use Rattle.std.proofs.lemmas.Bool.{cases_Bool}
pub use Rattle.std.proofs.lemmas.List.{length-set, append-nil, append_assoc}
pub use Rattle.std.proofs.lemmas.Option.{slice_get_within, same_Some, get_or_from_slice_get, slice_get-get_or}
pub use mathlib.Core.Logic.{dite}
pub use native.Mathlib.Decide.{ℕ_discrete, dec_lt}
pub use Rattle.history_model.specs.Arrangements.{IsArrangement, KeepsValues}
pub use Rattle.history_model.specs.Histories.{after_effect}
pub use Rattle.history_model.specs.Items.{Uses, AgreeWithVersions, IsItem, KeepsUses, LegalOnValues, writer_at}
pub use Rattle.history_model.specs.Legal.{IsIn}
pub use Rattle.history_model.specs.Locks.{lock_of_word}
pub use Rattle.history_model.specs.Table.{Knows}
pub use Rattle.history_model.specs.Traces.{Trace, Writes, Touches, Begins}
pub use Rattle.history_model.specs.Undoing.{Notes}
pub use Rattle.history_model.specs.declared.event.Event.{Event}
pub use Rattle.history_model.specs.declared.event.Event.TheVariants.{Read, Write}
pub use Rattle.history_model.specs.declared.item.Item.{Item}
pub use Rattle.history_model.specs.declared.view.View.{View}
