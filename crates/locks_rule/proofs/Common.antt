-- What several proofs of this crate import.
pub use Rattle.std.proofs.Common.{List, ap, subst, sym, ℕ, ◌≡◌, false, slice_set, true, ⊎_elim, ◌<◌, ◌∙◌, inl, inr, slice_index, arith, refl, ◌≢◌, length, ◌%◌}
pub use Rattle.std.proofs.Common.{◌+◌, ◌⊎◌, ◌∷◌, Bool, get_or-set_other, length-set, ◌-◌, [], get_or-set_same, if◌then◌else◌, eq-eqb, ne_eqb, ◌++◌, ◌^◌}
pub use Rattle.std.specs.Int.{bit_at, bit_not}
pub use Rattle.std.specs.Prelude.{bit_and, bit_or}
pub use mathlib.Core.Logic.{dite}
pub use mir.Syntax.{w64}
pub use native.Mathlib.Decide.{ℕ_discrete}
pub use Rattle.history_model.proofs.Common.{Knows}
pub use Rattle.history_model.proofs.SetLemmas.{differ, has-join_same, has-join, has-join_old, not_true, has-without, has-without_other, has-nil, has-one}
pub use Rattle.history_model.proofs.Views.Places.{same_view, put_here, put_there}
pub use Rattle.history_model.specs.Sets.{has, flag, has_pair, without}
pub use Rattle.history_model.specs.Table.{writer_word, row_word}
pub use Rattle.history_model.specs.Views.{HasBit, HasClaim, HasReadGrant, IsScanned}
pub use Rattle.history_model.specs.declared.TheConstants.{LOCKS}
pub use Rattle.history_model.specs.declared.view.Phase.TheVariants.{Idle}
pub use Rattle.history_model.specs.declared.view.View.{View}
pub use Rattle.locks_rule.specs.Actions.{Keeps}
pub use Rattle.locks_rule.specs.Locks.{LocksHold, IsSeat, AskedFor}
pub use Rattle.locks_rule.specs.Steps.{after_asking, after_meeting}
