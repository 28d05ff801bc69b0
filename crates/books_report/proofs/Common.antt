-- What several proofs of this crate import.
pub use Rattle.std.proofs.Common.{◌≡◌, ◌++◌, ◌∙◌, ap, sym, ℕ, List, length, ◌∷◌, [], refl, arith, ◌+◌, subst, append-nil, ◌<◌, ◌≢◌, append_assoc, inl, inr}
pub use Rattle.std.proofs.Common.{Some, codes, length-append, ◌≤◌, All, Bool, None, map, nat_lt, cond, false, suc, true, ◌==◌, Option, if◌then◌else◌, take}
pub use Rattle.std.proofs.Common.{◌&&◌, ◌-◌, Bor, count_by, get_or, rules, slice_index, zero, ◌⊎◌, Err, Ok, Result, lit<, not, replicate, set, ◌^◌}
pub use Rattle.std.proofs.lemmas.Bool.{eq-eqb, cases_lt, ne_eqb}
pub use Rattle.std.proofs.lemmas.Bool.Decides.{eqb_tells, Decides-eqb, nat_tests}
pub use Rattle.std.proofs.lemmas.List.{length-map, map_push, nil_from_length}
pub use Rattle.std.proofs.lemmas.List.Elements.{All-drop, All-tail, All-weaker, recursion_from_All}
pub use Rattle.std.proofs.lemmas.List.Sums.{sum_by-append, sum_by-cons}
pub use Rattle.std.proofs.lemmas.Option.{none-some, same_Some}
pub use Rattle.std.proofs.lemmas.Result.{IfOk-from_err, IfOk-weaker}
pub use Rattle.std.specs.Cmp.{nat_cmp_total}
pub use Rattle.std.specs.FinMap.{entries, entries_sorted}
pub use Rattle.std.specs.Iterator.Adapters.{zip_first, zip_second}
pub use Rattle.std.specs.List.{flat_map, AllByRecursion, concat, join_with_byte}
pub use Rattle.std.specs.Option.{IfNone, IfSome}
pub use Rattle.std.specs.Ordering.{is_lt}
pub use Rattle.std.specs.Result.{IfOk}
pub use Rattle.std.specs.Slice.Iter.{iter_rest}
pub use Rattle.std.specs.Str.{IsUtf8}
pub use Rattle.std.specs.String.{string_bytes}
pub use Rattle.std.specs.declared.cmp.Ordering.TheVariants.{Less}
pub use Rattle.books_model.proofs.Maps.Keys.{is_lt-nat_cmp}
pub use Rattle.books_model.specs.Inner.Keys.{positions_total}
pub use Rattle.books_model.specs.Interpreter.{outcome_of}
pub use Rattle.books_model.specs.Words.{word_of_value}
pub use Rattle.books_model.specs.declared.reply.Reply.{Reply}
pub use Rattle.books_report.specs.Checking.{closing_lines, FollowInTurn, MayFollow, journal_as_lines, IsFirstWrongLine, lines_behind, output_lines, IsNext}
pub use Rattle.books_report.specs.Inner.Audit.{StopsAfter, in_common, BeginsWithLine, HasRun, IsFound, BeginsWithNone, StopsBefore, four_words}
pub use Rattle.books_report.specs.Journals.{journal_line, places_run, journal_lines}
pub use Rattle.books_report.specs.Lines.{place_of_line, lent, ran_of_line, scripts_of}
pub use Rattle.books_report.specs.Output.{Ran, books_after, IsOutput, reply_to, books_left}
pub use Rattle.books_report.specs.Stores.Interpreter.{run_from, Run, Step, after_step, after_value, outcome_from}
pub use Rattle.books_report.specs.Stores.Interpreter.Run.{Ends, Stops}
pub use Rattle.books_report.specs.Stores.Interpreter.Step.{Absent, Full, Gives}
pub use Rattle.books_report.specs.Stores.Output.{store_reply_words}
pub use Rattle.books_report.specs.Stores.Steps.{run_with}
pub use Rattle.books_report.specs.Words.{reply_words}
pub use Rattle.books_report.specs.declared.check.Checked.{Checked}
pub use Rattle.books_report.specs.declared.check.Checked.TheVariants.{Agrees, Differs}
pub use Rattle.books_report.specs.declared.limits.TheConstants.{RESTARTS_BELOW}
pub use Rattle.books_report.specs.declared.line.Line.{Line}
pub use Rattle.books_report.specs.declared.stores.reply.StoreReply.{StoreReply}
pub use Rattle.script_reader.proofs.Common.{caller_at, ClearingInput, ClearingBooks, line, IsFreeOf, number, position_cmp, AreInRange, Caller, finish_line}
pub use Rattle.script_reader.proofs.Common.{IsName, word_at, books_lines}
pub use Rattle.script_reader.proofs.language.Grouped.Submitting.{caller-AreWords}
pub use Rattle.script_reader.proofs.text.Tokens.Cutting.{line_once}
pub use Rattle.script_reader.specs.Gathered.{script_at}
pub use Rattle.script_reader.specs.Input.{IsInput, count_scripts}
pub use Rattle.script_reader.specs.Journal.{IsPlace, Place, IsPlaceOf}
pub use Rattle.script_reader.specs.Text.{account_line, call_line, position_line, price_line}
pub use Rattle.script_reader.specs.declared.books.version.Version.TheVariants.{Two}
pub use Rattle.script_reader.specs.declared.text.words.TheConstants.{SPACE, LINE_FEED}
