-- What several proofs of this crate import.
pub use Rattle.std.proofs.Common.{◌≡◌, arith, ◌∙◌, ◌+◌, ap, refl, ℕ, List, rules, ◌<◌, sym, subst, Some, ◌≤◌, ◌++◌, [], slice_get, ◌∷◌, true, inl, inr, length}
pub use Rattle.std.proofs.Common.{None, false, if◌then◌else◌, ◌≢◌, slice_set, Bool, ◌^◌, ◌⊎◌, append_assoc, nat_lt, length-append, nat_le, get_or, Option, ◌-◌}
pub use Rattle.std.proofs.Common.{◌/◌, drop, ◌*◌}
pub use Rattle.std.proofs.lemmas.Bool.Decides.{nat_tests}
pub use Rattle.std.proofs.lemmas.List.{append-nil, length-set, length-drop}
pub use Rattle.std.proofs.lemmas.Option.{same_Some, slice_get_within, slice_get-get_or}
pub use Rattle.std.proofs.lemmas.Result.{IfOk-from_err}
pub use Rattle.std.specs.Cmp.{nat_cmp_total}
pub use Rattle.std.specs.List.{AllByRecursion}
pub use Rattle.std.specs.Ordering.{nat_cmp}
pub use mathlib.Core.Bool.{true≢false}
pub use mathlib.Core.Logic.{dite}
pub use native.Mathlib.Decide.{ℕ_discrete}
pub use Rattle.history_model.specs.declared.event.Event.TheVariants.{Read}
pub use Rattle.txn_alloc.proofs.Common.{block_at, goes_as, Cell, goes_then, Blocks, Entries, goes_call, IsInBlock, Looks, after, has_block, InEach, Trace}
pub use Rattle.txn_alloc.proofs.Common.{value_of, KeepsOthers, Fits, fits_begins, Leads, Begins, HasMap, seen_before, AppendsReads, get_set_other, SomeFits}
pub use Rattle.txn_alloc.proofs.Common.{IsUsedIn, sees_more, sees_then, get_set_same, HasMapApart, HoldsApart, only_more, only_then, only_write, sees_write}
pub use Rattle.txn_alloc.proofs.Common.{IsHead, leads_back, looks_wider, after_write_end, fits_write_end, LeadsTo, AppendsOnly, EndsWithWrite, begins_trans}
pub use Rattle.txn_alloc.proofs.Common.{IsOwn, Lacks, only_read, looks_read, sees_read, FreeListsHold, Gives, TakesBlock, InEachState, ReadsWithin}
pub use Rattle.txn_alloc.proofs.Common.{WritesWithin}
pub use Rattle.txn_alloc.proofs.FreeLists.Lists.{same_block, free_kept, free_below}
pub use Rattle.txn_alloc.proofs.FreeLists.Traces.{laid_block}
pub use Rattle.txn_alloc.proofs.FreeLists.Wider.{IsAnyHeadOrIn}
pub use Rattle.txn_alloc.proofs.Maps.Cells.{all_append, all_last, times_has, times_in, all_first, times-append, one_here, all_map, has_times, has_middle}
pub use Rattle.txn_alloc.proofs.Maps.Cells.{less_block, one_in, value_less, has_not, insert_other, insert_same}
pub use Rattle.txn_alloc.proofs.Maps.Counting.{length_below}
pub use Rattle.txn_alloc.proofs.Maps.Founds.{IsNearOr, looks_value, sees_near}
pub use Rattle.txn_alloc.proofs.Maps.Parts.{finds_none, held}
pub use Rattle.txn_alloc.proofs.Sets.{in_here, out_itself}
pub use Rattle.txn_alloc.proofs.Since.{each_now, each_since, leads_since, some_since, Reads, looks_since, Writes, reads_since, leads_now, within_since}
pub use Rattle.txn_alloc.specs.EntryMaps.{MayReadRange, Removes}
pub use Rattle.txn_alloc.specs.declared.arena.Arena.{Arena}
pub use Rattle.txn_tree_map.specs.Changes.{CanPut, Hangs, IsPut, Splits, IsNameIn, IsWhole, IsParted, IsSplitOwn, IsSplitSeen, AreWithin, CanSplit, IsPutOwn}
pub use Rattle.txn_tree_map.specs.Changes.{IsPutSeen, IsWordIn}
pub use Rattle.txn_tree_map.specs.Joins.{ArePair, Joins, IsHoleOrName, IsJoinOwn, IsJoinSeen, IsJoined, CanCut, IsCut, IsGathered, IsHoleOrWord}
pub use Rattle.txn_tree_map.specs.Paths.{after_of, before_of, HangsAt, Path, place_at_end, IsBelow, IsHung, Step, IsHigh}
pub use Rattle.txn_tree_map.specs.Searches.{IsLink, IsNamed, HasTop, IsPlace, IsFoundAt, IsMissing, IsPlaceOrKey, IsEnd, IsKeyOrName, IsSeat}
pub use Rattle.txn_tree_map.specs.Stored.{HasKeyIn}
pub use Rattle.txn_tree_map.specs.Sums.{IsFirstFrom, IsAnyWord, IsNext, HasNoneTo, IsFrom, counted}
pub use Rattle.txn_tree_map.specs.Trees.{cells_of, Tree, tree_part, name_of, IsRising, TreeHolds, priority_of, IsAbove, rank_of, IsSpelled, HasNode, IsLaid}
pub use Rattle.txn_tree_map.specs.Trees.{IsHeap}
pub use Rattle.txn_tree_map.specs.Trees.Tree.{Node, Leaf}
pub use Rattle.txn_tree_map.specs.Walks.{IsWalk, HasCome}
pub use Rattle.txn_tree_map.specs.declared.find.Named.{Named}
pub use Rattle.txn_tree_map.specs.declared.map.TreeMap.{TreeMap}
pub use Rattle.txn_tree_map.specs.declared.walk.TheConstants.{KEPT}
pub use Rattle.txn_tree_map.specs.declared.walk.Walk.{Walk}
pub use Rattle.txn_words.proofs.CallLaws.{goes}
pub use Rattle.txn_words.proofs.Common.{length-after, begins_refl}
pub use Rattle.txn_words.proofs.FrameLaws.{only_same}
pub use Rattle.txn_words.proofs.Looks.{looks_map, each_looked, looks_at, looks_each, looks_none, looks_only, looks_grow, looks_then}
pub use Rattle.txn_words.proofs.ReadLaws.{sees_same}
pub use Rattle.txn_words.specs.Calls.{GoesOn}
