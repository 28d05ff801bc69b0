-- What several proofs of this crate import.
pub use Rattle.std.proofs.Common.{◌≡◌, ℕ, arith, List, slice_get, Some, ◌<◌, length, sym, ◌∙◌, subst, ap, ◌≤◌, refl, map, slice_index, ◌+◌, suc, ⊎_elim, ◌∷◌}
pub use Rattle.std.proofs.Common.{Bool, [], false, true, inl, slice_set, ◌-◌, take, ◌≢◌, inr, zero, ◌⊎◌, ◌++◌, get_or, ◌/◌, length-set, get_or-set_same}
pub use Rattle.std.proofs.Common.{vec_len, ◌*◌, ◌==◌, Global, Vec, get_or-set_other, replicate, rules, slice_index_or}
pub use Rattle.std.proofs.lemmas.Bool.{cases_Bool, eqb-true}
pub use Rattle.std.proofs.lemmas.List.{length-map, length-replicate, get_or-replicate, take_all}
pub use Rattle.std.proofs.lemmas.List.Sorted.{All-permutation, IsPermutation-sym}
pub use Rattle.std.proofs.lemmas.List.Sums.{sum_by-cons}
pub use Rattle.std.proofs.lemmas.Option.{slice_get_within, slice_get_read, slice_get-get_or, get_or_from_slice_get, slice_get-map}
pub use Rattle.std.specs.BinaryHeap.{heap_items}
pub use Rattle.std.specs.List.Sorted.{IsPermutation, IsNonDecreasing}
pub use Rattle.std.specs.Option.{option_map}
pub use Rattle.std.specs.Prelude.{if◌then◌else◌}
pub use mathlib.Core.Logic.{dite}
pub use native.Mathlib.Decide.{ℕ_discrete, dec_lt}
pub use Rattle.history_model.proofs.Common.{IsIn}
pub use Rattle.history_model.proofs.ListPlaces.{below_get, at_map, front-get, get-front, get_cases, get_first, get_last}
pub use Rattle.history_model.specs.Items.{UsedBefore}
pub use Rattle.history_model.specs.Sets.{flag}
pub use Rattle.history_model.specs.declared.item.LockUse.{LockUse}
pub use Rattle.history_model.specs.declared.placed.Spot.{Spot}
pub use Rattle.order_rebuild.specs.Counts.{is_at, is_of}
pub use Rattle.order_rebuild.specs.Going.{AreClosed, AreWaits, KeepsReady, AreGone, AreStopped, Comer, comer_cmp, AreReady, IsKnown, IsOpen, IsStopped}
pub use Rattle.order_rebuild.specs.Going.{count_of}
pub use Rattle.order_rebuild.specs.Lanes.{AreCut, AreLanes, IsLane, shorter, IsInLane}
pub use Rattle.order_rebuild.specs.Legal.{entries_at}
pub use Rattle.order_rebuild.specs.Lines.{item_at, AreStarts, places, items, base_at, caller_of, first_at, last_of, AreChains, AreLines, AreRows}
pub use Rattle.order_rebuild.specs.Order.{IsNext, IsOrder, Orderable, Precedes, MayCome}
pub use Rattle.order_rebuild.specs.Standing.{IsPast}
pub use Rattle.order_rebuild.specs.Tallied.{IsStep, MayUse}
pub use Rattle.order_rebuild.specs.Tallies.{left_at, row_at, version_at, MayStart, AreKnownUses, MayUseBelow, no_tally}
pub use Rattle.order_rebuild.specs.Turns.{use_key, AreTurns, GainTurns, line_place, IsRising, IsTurnOf, HasTurn, IsLockCode}
pub use Rattle.order_rebuild.specs.declared.lanes.Lane.{Lane}
pub use Rattle.order_rebuild.specs.declared.lines.Lines.{Lines}
pub use Rattle.order_rebuild.specs.declared.tallied.Tally.{Tally}
pub use Rattle.order_rebuild.specs.declared.turn.TheConstants.{LINE}
pub use Rattle.order_rebuild.specs.declared.turn.Turn.{Turn}
