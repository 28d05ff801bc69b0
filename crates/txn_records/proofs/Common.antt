-- What several proofs of this crate import.
pub use Rattle.std.proofs.Common.{◌∙◌, ◌≡◌, ap, arith, ℕ, refl, sym, List, None, Some, Option, ◌<◌, ◌+◌, true, false, subst, ◌-◌, ◌≢◌, Bool, [], rules, ◌==◌}
pub use Rattle.std.proofs.Common.{◌∷◌, ◌≤◌, if◌then◌else◌, length, ne_eqb, unwrap_or, ◌*◌, IfSome, cond, eq-eqb, eqb-true, inl, inr, is_some, map, nat_le}
pub use Rattle.std.proofs.Common.{nat_lt, replicate, slice_get, suc, ◌%◌, ◌/◌}
pub use Rattle.std.proofs.lemmas.Bool.Decides.{nat_tests}
pub use Rattle.std.proofs.lemmas.Result.{IfOk-weaker}
pub use Rattle.std.specs.Cmp.{nat_cmp_total}
pub use Rattle.std.specs.FinMap.{nat_cmp-IsAntisymmetric, entries_sorted, get-entries, len-entries}
pub use Rattle.std.specs.List.{AllByRecursion}
pub use Rattle.std.specs.Ordering.{nat_cmp}
pub use mathlib.Core.Logic.{dite}
pub use native.Mathlib.Decide.{ℕ_discrete}
pub use Rattle.books_model.proofs.Maps.Trees.{len_after_insert}
pub use Rattle.record_text.proofs.Common.{Records, index_of, is_store_full}
pub use Rattle.record_text.specs.Laws.{data_at_rank}
pub use Rattle.record_text.specs.Output.{printed_of, Printed}
pub use Rattle.record_text.specs.Ranges.{IsRank, IsId}
pub use Rattle.record_text.specs.Records.{ids_from}
pub use Rattle.record_text.specs.declared.limits.TheConstants.{GREATEST_DATA}
pub use Rattle.txn_alloc.proofs.Apart.{three_among}
pub use Rattle.txn_alloc.proofs.Common.{Entries, goes_then, Finds, FreeListsHold, IsHead, goes_as}
pub use Rattle.txn_alloc.proofs.Maps.Counting.{times_of}
pub use Rattle.txn_alloc.specs.declared.put.Put.{Put}
pub use Rattle.txn_alloc.specs.declared.put.Put.TheVariants.{Full, New, Old}
pub use Rattle.txn_records.specs.Access.{first_in, first_key_in, put_answer, PutsRecord, put_by, is_used_up}
pub use Rattle.txn_records.specs.Inner.Listing.{entries_of, first_entry, first_key, keys_of}
pub use Rattle.txn_records.specs.Layout.{tree_of, index_key_of, words_of, arena_of}
pub use Rattle.txn_records.specs.Standing.{Stands, Trees, rank_in, HasTrees, HoldRecords, RecordsAreInRange, entries_in, HasSomeTrees, IsGoodFor}
pub use Rattle.txn_records.specs.declared.layout.Order.TheVariants.{ById, ByRank}
pub use Rattle.txn_records.specs.declared.layout.TheConstants.{RANK_STEP}
pub use Rattle.txn_records.specs.declared.shape.RecordShape.{RecordShape}
pub use Rattle.txn_stores.proofs.Common.{KeepsOthers}
pub use Rattle.txn_stores.proofs.Maps.{removed_here, removed_there, inserted_here, inserted_there, remove_absent}
pub use Rattle.txn_stores.proofs.Turning.{leads_less, looked, looked_stands, turned, leads_when, look_then, tells, turn_then, turned_stands, Leads, Saw, Turns}
pub use Rattle.txn_stores.proofs.Turning.{leads_some, looked_less, ok_both, unlooked}
pub use Rattle.txn_tree_map.proofs.Common.{tree_part, TreeHolds}
pub use Rattle.txn_tree_map.proofs.Held.Entries.{tied}
pub use Rattle.txn_tree_map.specs.Firsts.{FindsFirst, FindsFirstKey}
pub use Rattle.txn_words.specs.Access.{Tells, TellsAndChanges}
