-- What several proofs of this crate import.
pub use Rattle.std.proofs.Common.{◌∙◌, sym, ◌≡◌, [], ap, arith, ◌∷◌, length, refl, List, ℕ, ◌++◌, subst, codes, true, Some, false, ◌<◌, ◌+◌, Bool, ◌≤◌, map}
pub use Rattle.std.proofs.Common.{◌&&◌, ◌==◌, not, None, drop, length-append, cond, append_assoc, ◌||◌, ◌^◌, nat_le, lit<, inl, inr, take, All, ◌-◌, Option}
pub use Rattle.std.proofs.Common.{if◌then◌else◌, nat_lt, sum_by, true≢false, ◌⊎◌, fold, get_or, ◌≢◌, Err, filter, min, suc, zero, slice_index_or, IsSome}
pub use Rattle.std.proofs.Common.{take-append-drop, Ok, Result, set, slice_get, ◌*◌, ◌/◌}
pub use Rattle.std.proofs.lemmas.Bool.{eqb-true, le-leb, leb-true, lt-leb, lt-ltb, leb-false, eq-eqb, ne_eqb, cases_lt}
pub use Rattle.std.proofs.lemmas.Bool.Decides.{nat_tests, eqb_tells}
pub use Rattle.std.proofs.lemmas.Cmp.{ranked}
pub use Rattle.std.proofs.lemmas.Grind.{common_steps}
pub use Rattle.std.proofs.lemmas.List.{append-nil, length-map, map-append, take_rest, take_more}
pub use Rattle.std.proofs.lemmas.List.Concat.{flat_map-append}
pub use Rattle.std.proofs.lemmas.List.Elements.{recursion_from_All, All-push, All-from_recursion, filter-append, All-append}
pub use Rattle.std.proofs.lemmas.List.Quantifiers.{position-Some}
pub use Rattle.std.proofs.lemmas.List.Splits.{length-slice_split}
pub use Rattle.std.proofs.lemmas.List.Sums.{sum_by-cons, sum_by-append, fails_before_first, fold-append, fold_push}
pub use Rattle.std.proofs.lemmas.Option.{none-some, same_Some}
pub use Rattle.std.proofs.lemmas.Result.{IfOk-weaker}
pub use Rattle.std.proofs.lemmas.Slice.Eq.{bytes_eq-Decides}
pub use Rattle.std.proofs.lemmas.Str.Parse.{numerals_by_value, tells_all_ascii_digits}
pub use Rattle.std.specs.Cmp.{nat_cmp_total}
pub use Rattle.std.specs.FinMap.{get-entries, len-entries, find}
pub use Rattle.std.specs.List.{flat_map, AllByRecursion, list_any, count_by, list_all, position, position_or_len, join_with_byte, slice_split, onto_first}
pub use Rattle.std.specs.Option.{is_none, is_some}
pub use Rattle.std.specs.Ordering.{nat_cmp, is_eq, is_lt}
pub use Rattle.std.specs.Str.{bytes_eq, all_ascii_digits}
pub use Rattle.std.specs.Str.Parse.{digits_value}
pub use Rattle.std.specs.String.{string_bytes}
pub use Rattle.std.specs.Vec.Iter.{into_iter_items}
pub use Rattle.std.specs.declared.cmp.Ordering.{Ordering}
pub use Rattle.std.specs.declared.cmp.Ordering.TheVariants.{Equal, Greater, Less}
pub use Rattle.books_model.proofs.Common.{ClearingBooks, IsWithin, AreInRange, operations_of, position_cmp, operations_in}
pub use Rattle.books_model.proofs.Maps.Trees.{positions_total}
pub use Rattle.books_model.proofs.Scripts.Branches.{All-back, All-front, behind_parts}
pub use Rattle.books_model.specs.Books.{empty_books}
pub use Rattle.books_model.specs.Scripts.{alternatives_in}
pub use Rattle.books_model.specs.declared.limits.TheConstants.{MOST_OPERATIONS, GREATEST_ACCOUNT, MOST_ALTERNATIVES, MOST_RING, GREATEST_SHORTFALL, MOST_BLOCKS}
pub use Rattle.books_model.specs.declared.limits.TheConstants.{MOST_INSTRUMENTS, GREATEST_AMOUNT, GREATEST_CASH, GREATEST_PRICE, GREATEST_RATE}
pub use Rattle.books_model.specs.declared.script.Op.{Op}
pub use Rattle.books_model.specs.declared.script.Part.{Part}
pub use Rattle.script_reader.specs.Faults.{fault_of, first_reason, inside_fault, IsFaultyBehind, is_below, takes_block, IsFrontFault, books_fault, header_fault}
pub use Rattle.script_reader.specs.Faults.{header_version, kind_of, line_key, AmongBooks, Inside, IsFirstFault, OutsideScripts, books_place_behind, is_beyond}
pub use Rattle.script_reader.specs.Faults.{is_given, is_late, is_low, is_too_many, is_turning, outside_fault, place_fault}
pub use Rattle.script_reader.specs.Forms.{Words, is_only, are_in_range, are_numbers, begins, form_of, ranges_of, value_of, accounts, word_value, Form}
pub use Rattle.script_reader.specs.Forms.{operation_forms, Region, prices, quantities, InScript, books_forms, form, has_form, is_in_range, is_script_line}
pub use Rattle.script_reader.specs.Forms.{turning_forms, amounts, InFirstBranch, InSecondBranch, books_size_words, script_forms, sizes}
pub use Rattle.script_reader.specs.Gathered.{SubmissionOf, CallerOf, AreCallers, count_scripts, caller_at, add_name, first_seen, scripts_by}
pub use Rattle.script_reader.specs.Grammar.{Spells, submission_lines, IsValidInput, input_text}
pub use Rattle.script_reader.specs.Inner.BooksRows.{IsRow, with_row}
pub use Rattle.script_reader.specs.Inner.Branches.{closing_word}
pub use Rattle.script_reader.specs.Inner.Cuts.{word_end, IsCut}
pub use Rattle.script_reader.specs.Inner.Gatherings.{is_beyond_in, add_submission, callers_in, is_caller, IsEven, beside}
pub use Rattle.script_reader.specs.Inner.LinesAsWords.{books_words, BetweenParts, InFirst, InSecond, Open, lines_so_far, books_submission_words, parts_with}
pub use Rattle.script_reader.specs.Inner.LinesAsWords.{script_words, lines_inside}
pub use Rattle.script_reader.specs.Inner.ListScripts.{HasTextInFront, lines_within, operations_text}
pub use Rattle.script_reader.specs.Inner.OfVersion.{AreCallersOf, IsOperationOf, IsScriptOf}
pub use Rattle.script_reader.specs.Inner.Scripts.{HasFront}
pub use Rattle.script_reader.specs.Input.{Submission, callers_of, IsName, ClearingInput, AreCallersFor, Caller}
pub use Rattle.script_reader.specs.Lines.{word_at, AreWords, IsWord, IsFreeOf}
pub use Rattle.script_reader.specs.ListLanguage.{ListLanguage, judge, AreNumbersIn, IsListLanguage, IsOperationIn, IsScriptIn, head_words, submission_words}
pub use Rattle.script_reader.specs.ListLanguage.{AreSizes, lines_of, operation_words, IsText, IsTextOf, operation_fault, sizes_at, size_ranges, size_words}
pub use Rattle.script_reader.specs.ListLanguage.{BetweenScripts, IsFirstFaultIn, Size, WithinScript, have_names, head_fault, is_head_with, is_word, place_after}
pub use Rattle.script_reader.specs.ListLanguage.{place_behind, script_line_fault, seconds, size_pairs}
pub use Rattle.script_reader.specs.Number.{is_number}
pub use Rattle.script_reader.specs.Pieces.{CanStand}
pub use Rattle.script_reader.specs.Reading.{HaveNoFault, IsFaultBehind, GoesOnBehind, IsFaultInFront, BeginsFaulty, Judge}
pub use Rattle.script_reader.specs.Rows.{numbers_fault, HasNumbers, row_fault}
pub use Rattle.script_reader.specs.Statements.{HasFault}
pub use Rattle.script_reader.specs.Text.{line, number, account_words, books_operation_words, call_words, finish_line, position_words, price_words, end_line}
pub use Rattle.script_reader.specs.Text.{part_words, script_lines, books_lines, header_words, scripts_line}
pub use Rattle.script_reader.specs.Versions.{AreBooksWithin, greatest_amount, greatest_cash, most_blocks, version_word}
pub use Rattle.script_reader.specs.declared.books.Row.{Row}
pub use Rattle.script_reader.specs.declared.books.version.Version.{Version}
pub use Rattle.script_reader.specs.declared.books.version.Version.TheVariants.{Two, One}
pub use Rattle.script_reader.specs.declared.fault.Fault.{Fault}
pub use Rattle.script_reader.specs.declared.limits.TheConstants.{MOST_SCRIPTS, MOST_CALLERS}
pub use Rattle.script_reader.specs.declared.text.words.TheConstants.{LINE_FEED, SPACE}
