-- What several proofs of this crate import.
pub use Rattle.std.proofs.Common.{◌≡◌, ℕ, arith, List, ◌∙◌, ap, subst, sym, ◌+◌, Some, [], refl, inl, inr, ◌<◌, ◌∷◌, None, false, slice_get, rules, slice_set}
pub use Rattle.std.proofs.Common.{true, ◌≢◌, drop, length, suc, ◌%◌, ◌++◌, ◌≤◌, ◌⊎◌, Option, nat_eq, ◌-◌, Bool, zero, cond, get_or, ◌*◌, ◌==◌}
pub use Rattle.std.proofs.lemmas.List.{length-set}
pub use Rattle.std.proofs.lemmas.Map.Keys.{IsDistinct-cons, IsDistinct-tail}
pub use Rattle.std.proofs.lemmas.Option.{same_Some}
pub use Rattle.std.specs.Cmp.{nat_cmp_total}
pub use Rattle.std.specs.FinSet.{nat_cmp-IsAntisymmetric}
pub use Rattle.std.specs.List.{AllByRecursion, IsDistinct, All, list_any}
pub use Rattle.std.specs.Ordering.{nat_cmp}
pub use mathlib.Core.Bool.{true≢false}
pub use mathlib.Core.Logic.{dite}
pub use native.Mathlib.Decide.{ℕ_discrete}
pub use Rattle.history_model.proofs.Common.{Trace, Begins}
pub use Rattle.history_model.proofs.Traces.TraceLaws.{get_set_other, get_set_same, read_there}
pub use Rattle.history_model.specs.declared.event.Event.TheVariants.{Read}
pub use Rattle.txn_alloc.specs.EntryMaps.{Entries, Part, Blocks, HasMapApart, Finds, HasMap, HoldsApart, Inserts, IsOwn, Cell, IsMoved, IsUsedIn, IsValue}
pub use Rattle.txn_alloc.specs.EntryMaps.{LacksRoom, MayReadToInsert, TakesNearest, has_block, value_of}
pub use Rattle.txn_alloc.specs.FreeLists.{block_at, IsHead, head_of, FreeListsHold, HasNone, IsInBlock, IsInOrder, IsLaidOut, IsHeadOrFirst, IsHeadTo}
pub use Rattle.txn_alloc.specs.FreeLists.{IsReadByTake, IsWrittenByTake, Takes, TakesBlock, Gives, HasList, IsNearest, Lacks, steps_to}
pub use Rattle.txn_alloc.specs.Laying.{all_blocks, IsWrittenByLaying}
pub use Rattle.txn_alloc.specs.declared.arena.Arena.{Arena}
pub use Rattle.txn_alloc.specs.declared.arena.TheConstants.{HEADS}
pub use Rattle.txn_alloc.specs.declared.put.Put.{Put}
pub use Rattle.txn_alloc.specs.declared.put.Put.TheVariants.{Full, New, Old}
pub use Rattle.txn_words.proofs.CallLaws.{each_plain, state_after, leads_plain, goes_as, goes_call, goes_then}
pub use Rattle.txn_words.proofs.Common.{Leads, after, Fits, InEach, SomeFits, EndsWithWrite, fits_begins, InEachState, LeadsTo, AppendsOnly, AppendsReads}
pub use Rattle.txn_words.proofs.Common.{fits_front, after_read, begins_trans}
pub use Rattle.txn_words.proofs.FrameLaws.{only_then, only_more, only_write, only_read, writes_keep}
pub use Rattle.txn_words.proofs.Looks.{leads_back, seen_before, some_from, each_from, looks_read, looks_wider}
pub use Rattle.txn_words.proofs.ReadLaws.{sees_then, sees_write, sees_more, sees_read}
pub use Rattle.txn_words.proofs.Steps.{after_write_end, fits_write_end}
pub use Rattle.txn_words.specs.Calls.{ReadsWithin, WritesWithin}
pub use Rattle.txn_words.specs.Frames.{KeepsOthers}
pub use Rattle.txn_words.specs.Looks.{Looks}
