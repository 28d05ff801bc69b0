-- What several proofs of this crate import.
pub use Rattle.std.proofs.Common.{◌≡◌, ◌+◌, ap, ℕ, ◌++◌, sym, List, arith, refl, ◌*◌, ◌∙◌, [], ◌∷◌, ◌≤◌, Bool, length, subst, true, false, ◌<◌, map, sum_by}
pub use Rattle.std.proofs.Common.{◌&&◌, cond, suc, true≢false, zero, ◌==◌, length-append, Option, Some, if◌then◌else◌, inl, inr, ◌%◌, IsSome, None, add-one}
pub use Rattle.std.proofs.Common.{append_assoc, codes, get_or, ◌||◌, ◌≢◌}
pub use Rattle.std.proofs.Math.Nat.{mod-lt}
pub use Rattle.std.proofs.lemmas.Bool.{ne_eqb}
pub use Rattle.std.proofs.lemmas.List.{append-nil}
pub use Rattle.std.proofs.lemmas.List.Elements.{recursion_from_All}
pub use Rattle.std.proofs.lemmas.List.FromFn.{length-map-range_with_len}
pub use Rattle.std.proofs.lemmas.List.Sums.{sum_by-cons}
pub use Rattle.std.proofs.lemmas.Map.Lookups.{exact_unsigned}
pub use Rattle.std.specs.Cmp.{nat_cmp_total}
pub use Rattle.std.specs.List.{flat_map, AllByRecursion, range_with_len}
pub use Rattle.std.specs.Ordering.{nat_cmp, eq_by_cmp}
pub use Rattle.std.specs.Str.{bytes_eq}
pub use Rattle.std.specs.String.{string_bytes}
pub use Rattle.std.specs.declared.cmp.Ordering.{Ordering}
pub use Rattle.books_model.proofs.Common.{cash_of, used, Declines, FindsNoBlock, Gives, Step, is_full, put_position, step_of, IsOperationFor}
pub use Rattle.books_model.proofs.Maps.Entries.{AllByRecursion-weaker, sum_by-most, All-entries, weigh}
pub use Rattle.books_model.proofs.Maps.Trees.{exact_positions}
pub use Rattle.books_model.specs.Laws.{all_cash, all_held}
pub use Rattle.books_model.specs.declared.limits.TheConstants.{GREATEST_CASH}
pub use Rattle.books_model.specs.declared.reply.Value.{Value}
pub use Rattle.books_model.specs.declared.script.Op.{Op}
pub use Rattle.books_model.specs.declared.script.Part.{Part}
pub use Rattle.books_report.proofs.Common.{position_line, account_line, price_line, ClearingBooks, AreInRange, script_at, ClearingInput, Place, line}
pub use Rattle.books_report.proofs.Common.{position_cmp, outcome_of, books_after, Caller, books_lines}
pub use Rattle.books_report.proofs.Order.Classes.{by_weights, sums, sums-same}
pub use Rattle.books_report.proofs.Walking.Walks.{written_next}
pub use Rattle.input_maker.specs.Days.{all_quantities, deposits_of, paid_in_by, deposits_in}
pub use Rattle.input_maker.specs.Generator.{drawn_state}
pub use Rattle.input_maker.specs.Lines.{operation_lines}
pub use Rattle.input_maker.specs.Made.{made_books, made_submission, state_of_script, state_after_operations, accounts_to, operation_from, operations_from}
pub use Rattle.input_maker.specs.Made.{positions_in, positions_to, prices_to, state_after_script, submissions_to}
pub use Rattle.script_reader.proofs.Common.{operations_of, submission_lines, IsWithin, Submission, books_operation_words, positions_total, IsScriptOf}
pub use Rattle.script_reader.proofs.Common.{callers_of, end_line, script_lines}
pub use Rattle.script_reader.specs.Input.{first_seen}
pub use Rattle.script_reader.specs.Journal.{IsJournal}
pub use Rattle.script_reader.specs.Text.{header_line}
pub use Rattle.script_reader.specs.declared.books.version.Version.TheVariants.{One}
pub use Rattle.script_reader.specs.declared.limits.TheConstants.{MOST_SCRIPTS}
