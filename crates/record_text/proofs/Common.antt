-- What several proofs of this crate import.
pub use Rattle.std.proofs.Common.{◌∙◌, ap, sym, ◌≡◌, arith, ℕ, List, ◌∷◌, [], refl, ◌++◌, false, subst, Bool, codes, true, None, Some, map, ◌≤◌, cond, Option}
pub use Rattle.std.proofs.Common.{append-nil, lit<, not, ◌&&◌, append_assoc, if◌then◌else◌, length, nat_le, take, ◌*◌, ◌<◌}
pub use Rattle.std.proofs.lemmas.Bool.Decides.{nat_tests}
pub use Rattle.std.proofs.lemmas.List.{map_push}
pub use Rattle.std.proofs.lemmas.Map.Lookups.{exact_unsigned}
pub use Rattle.std.proofs.lemmas.Result.{err_from_is_err_and}
pub use Rattle.std.specs.BTreeMap.{is_at}
pub use Rattle.std.specs.Cmp.{nat_cmp_total}
pub use Rattle.std.specs.FinMap.{entries_sorted, find}
pub use Rattle.std.specs.FinMap.Entries.{below_all, is_sorted}
pub use Rattle.std.specs.List.{flat_map}
pub use Rattle.std.specs.List.Sorted.{IsStrictlySortedBy}
pub use Rattle.std.specs.Map.{keys_of, lookup}
pub use Rattle.std.specs.Ordering.{nat_cmp, is_eq, ordering_then}
pub use Rattle.std.specs.Slice.Iter.{iter_rest}
pub use Rattle.std.specs.String.{string_bytes}
pub use Rattle.std.specs.declared.cmp.Ordering.{Ordering}
pub use Rattle.std.specs.declared.cmp.Ordering.TheVariants.{Equal, Greater, Less}
pub use Rattle.books_model.proofs.Maps.Keys.{below_first, below_rest, sorted_first, sorted_rest}
pub use Rattle.books_model.proofs.Maps.Trees.{get-lookup, entries-from_entries, from_entries-inserted}
pub use Rattle.books_report.proofs.Common.{Gives, number, Full}
pub use Rattle.record_text.specs.Input.{StoreInput}
pub use Rattle.record_text.specs.Interpreter.{record_step_of, with_record}
pub use Rattle.record_text.specs.Language.{record_forms, record_language}
pub use Rattle.record_text.specs.Ranges.{HasRoom}
pub use Rattle.record_text.specs.Records.{RecordStore, blocks_of, index_cmp, is_store_full, Records, index_of}
pub use Rattle.record_text.specs.Words.{ids_word}
pub use Rattle.record_text.specs.contracts.store.Store.{the_view}
pub use Rattle.record_text.specs.declared.limits.TheConstants.{GREATEST_ID, GREATEST_RANK, GREATEST_DATA, MOST_LISTED}
pub use Rattle.record_text.specs.declared.reply.RecordValue.{RecordValue}
pub use Rattle.record_text.specs.declared.script.RecordOp.{RecordOp}
pub use Rattle.script_reader.proofs.Common.{positions_total}
pub use Rattle.script_reader.proofs.LineFaults.RowFaults.{other_length, word_wrong}
pub use Rattle.script_reader.specs.declared.text.words.TheConstants.{SPACE}
