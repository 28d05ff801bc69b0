-- What several proofs of this crate import.
pub use Rattle.std.proofs.Common.{◌∙◌, ◌≡◌, ap, sym, List, arith, ℕ, length, subst, ◌+◌, inl, refl, ◌++◌, IfSome, Some, inr, ◌≤◌, Option, None, Err, map, ◌<◌}
pub use Rattle.std.proofs.Common.{◌⊎◌, All, [], sum_by, take, ◌*◌, ◌-◌, ◌∷◌, Ok, rules, Bool, Global, IfOk, IsSome, Result, Vec, append-nil, append_assoc}
pub use Rattle.std.proofs.Common.{codes, false, nat_lt, not, suc, true, true≢false, ◌≢◌}
pub use Rattle.std.proofs.lemmas.List.{length-map}
pub use Rattle.std.proofs.lemmas.Option.{IfSome_then}
pub use Rattle.std.proofs.lemmas.Result.{IfOk-weaker, IfOk-at_ok}
pub use Rattle.std.specs.Cmp.{nat_cmp_total}
pub use Rattle.std.specs.FinMap.{entries, entries_sorted}
pub use Rattle.std.specs.Io.KnownBytes.{Appends, IsAtEnd, Consumes}
pub use Rattle.std.specs.Ordering.{is_lt}
pub use Rattle.std.specs.String.{string_bytes}
pub use Rattle.books_model.proofs.Common.{ClearingBooks, position_cmp}
pub use Rattle.books_model.specs.declared.reply.Reply.{Reply}
pub use Rattle.books_report.proofs.Common.{IsOutput, journal_lines, reply_words, IsPlace, IsFirstWrongLine, lent, place_of_line, scripts_of}
pub use Rattle.books_report.proofs.Walking.Walks.{up_to, up_to_all}
pub use Rattle.books_report.specs.declared.limits.TheConstants.{RESTARTS_BELOW}
pub use Rattle.books_report.specs.declared.line.Line.{Line}
pub use Rattle.io_ends.specs.Counts.{Rose}
pub use Rattle.io_ends.specs.Taken.{count_taken, TakesAtMost, AppendsPrefix}
pub use Rattle.order_text.proofs.Common.{BookInput}
pub use Rattle.order_text.specs.Grammar.{IsOrderFault, SpellsOrders}
pub use Rattle.record_text.proofs.Common.{StoreInput}
pub use Rattle.record_text.specs.Grammar.{IsRecordFault, SpellsRecords}
pub use Rattle.script_reader.proofs.Common.{ClearingInput, IsFirstFault, IsFrontFault, Spells, IsValidInput, number}
pub use Rattle.script_reader.proofs.books.Texts.Deciding.{not_both}
pub use Rattle.script_reader.specs.Grammar.{AreTwoTexts, BeginWithInput}
pub use Rattle.script_reader.specs.declared.fault.Fault.{Fault}
pub use Rattle.script_reader.specs.declared.limits.TheConstants.{MOST_INPUT_BYTES}
pub use Rattle.twoplsf.specs.Answer.{OfBytesRead, IsRefusalOf, HaveInputFor, refused_line, IsComparisonOf, IsDayFor, IsOrdersRunOf, IsRecordsRunOf, IsRunOf}
pub use Rattle.twoplsf.specs.Answer.{refused_size, refused_words}
pub use Rattle.twoplsf.specs.Cells.{cells_text, cell_line}
pub use Rattle.twoplsf.specs.Check.{differs_line, agrees_line}
pub use Rattle.twoplsf.specs.Command.{IsValidCommand, IsCheck, IsReading, texts_of, IsAnyRunCommand, IsDrill, IsMaking, IsOrders, IsRecords, ByCommand, IsCells}
pub use Rattle.twoplsf.specs.Day.{ran_of_item, closing_books, IsDayOf}
pub use Rattle.twoplsf.specs.Made.{IsMadeText}
pub use Rattle.twoplsf.specs.Orders.{IsOrdersText}
pub use Rattle.twoplsf.specs.Records.{IsRecordsText}
pub use Rattle.twoplsf.specs.declared.status.Status.{Status}
pub use Rattle.txn_books.proofs.Common.{shape_of}
pub use Rattle.txn_books.specs.declared.shape.BooksShape.{BooksShape}
pub use Rattle.txn_cells.proofs.Common.{AreCellValues, sums_of}
pub use Rattle.txn_cells.specs.declared.limits.TheConstants.{CELLS}
pub use Rattle.txn_stores.proofs.Common.{line_of_done}
pub use Rattle.worker_pool.proofs.Common.{Done, place_of_item}
pub use Rattle.worker_pool.specs.declared.done.DayEnd.{DayEnd}
