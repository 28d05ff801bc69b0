-- What several proofs of this crate import.
pub use Rattle.std.proofs.Common.{◌≡◌, ap, ◌+◌, ◌∙◌, arith, Some, List, ℕ, ◌<◌, inl, inr, sym, None, length, rules, slice_get, [], refl, subst, true, ◌∷◌, ◌++◌}
pub use Rattle.std.proofs.Common.{◌≢◌, false, slice_set, ◌^◌, ◌≤◌, ◌⊎◌, Bool, ◌*◌, cond, eqb, ◌/◌}
pub use Rattle.std.proofs.lemmas.List.{length-set}
pub use Rattle.std.proofs.lemmas.Option.{same_Some, slice_get_within}
pub use Rattle.std.specs.List.{AllByRecursion}
pub use mathlib.Core.Bool.{true≢false}
pub use mathlib.Core.Logic.{dite}
pub use native.Mathlib.Decide.{ℕ_discrete}
pub use Rattle.history_model.specs.declared.event.Event.TheVariants.{Read}
pub use Rattle.txn_alloc.proofs.Common.{block_at, Blocks, Entries, Cell, has_block, value_of, HoldsApart, goes_as, goes_call, goes_then, KeepsOthers, SomeFits}
pub use Rattle.txn_alloc.proofs.Common.{Trace, after, HasMapApart, IsInBlock, Looks, get_set_other, get_set_same, Fits, InEach, Leads, IsHead, AppendsOnly}
pub use Rattle.txn_alloc.proofs.Common.{AppendsReads, fits_begins, begins_trans, Begins, IsOwn, IsUsedIn, FreeListsHold, Gives, Lacks, TakesBlock, state_after}
pub use Rattle.txn_alloc.proofs.Common.{only_more, only_then, only_write, looks_read, seen_before, sees_then, sees_write, after_write_end, fits_write_end}
pub use Rattle.txn_alloc.proofs.Common.{LeadsTo, EndsWithWrite}
pub use Rattle.txn_alloc.proofs.FreeLists.Lists.{free_below, free_kept, same_block}
pub use Rattle.txn_alloc.proofs.FreeLists.Traces.{laid_block}
pub use Rattle.txn_alloc.proofs.FreeLists.Wider.{IsAnyHeadOrIn}
pub use Rattle.txn_alloc.proofs.Maps.Cells.{value_first, value_later, has_later, has_first, has_middle, value_past, first_block, later_block}
pub use Rattle.txn_alloc.proofs.Maps.Counting.{AreKeyed, keyed_once}
pub use Rattle.txn_alloc.proofs.Maps.Founds.{IsNearOr, looks_value, sees_near}
pub use Rattle.txn_alloc.proofs.Maps.Parts.{finds_none, held}
pub use Rattle.txn_alloc.proofs.Sets.{in_here, out_itself}
pub use Rattle.txn_alloc.proofs.Since.{each_now, some_since, each_since, leads_since}
pub use Rattle.txn_alloc.specs.EntryMaps.{HasKeysOnce, Removes}
pub use Rattle.txn_alloc.specs.declared.arena.Arena.{Arena}
pub use Rattle.txn_hash_map.specs.Chains.{chain_part, bucket_of, IsLaid, HasChain, ChainsHold, HasKeysIn, IsBucket}
pub use Rattle.txn_hash_map.specs.Searches.{IsLink, IsFoundAt, IsMissing, IsPutInFront, place_after, IsBucketOrIn}
pub use Rattle.txn_hash_map.specs.declared.map.ChainMap.{ChainMap}
pub use Rattle.txn_hash_map.specs.declared.map.TheConstants.{BUCKETS}
pub use Rattle.txn_words.proofs.Common.{length-after}
pub use Rattle.txn_words.proofs.Looks.{each_looked, looks_map, looks_only}
