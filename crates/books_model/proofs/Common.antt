-- What several proofs of this crate import.
pub use Rattle.std.proofs.Common.{◌∙◌, ap, ◌≡◌, sym, subst, arith, ◌+◌, ℕ, length, refl, ◌≤◌, ◌∷◌, None, [], ◌<◌, List, IsSome, Option, Some, ◌++◌, false, Bool}
pub use Rattle.std.proofs.Common.{cond, true, drop, is_some, nat_lt, All, not, unwrap_or, ◌*◌, ◌==◌, inl, inr, ◌&&◌, length-append, IfSome, append-nil}
pub use Rattle.std.proofs.Common.{append_assoc, suc, ◌-◌, ◌||◌, eq-eqb, if◌then◌else◌, zero, ◌^◌, ◌≢◌, ◌⊎◌}
pub use Rattle.std.proofs.Math.Seq.{drop-append_seam}
pub use Rattle.std.proofs.lemmas.Bool.{cases_lt}
pub use Rattle.std.proofs.lemmas.Bool.Decides.{nat_tests}
pub use Rattle.std.proofs.lemmas.List.{length-drop, nil_from_length}
pub use Rattle.std.proofs.lemmas.List.Elements.{All-drop, All-weaker}
pub use Rattle.std.proofs.lemmas.List.Sums.{sum_by-cons}
pub use Rattle.std.proofs.lemmas.Map.Keys.{sorted_tail}
pub use Rattle.std.proofs.lemmas.Map.Lookups.{exact_unsigned, CmpEqualImpliesEq}
pub use Rattle.std.proofs.lemmas.Map.Views.{tells_apart}
pub use Rattle.std.specs.BTreeMap.{is_at}
pub use Rattle.std.specs.BTreeMap.Range.{entries_between}
pub use Rattle.std.specs.Cmp.{nat_cmp_total, IsTotalOrder, tied_itself, eq_by_cmp_equiv}
pub use Rattle.std.specs.FinMap.{FinMap, get, get-insert, get-remove, insert, remove, same_map, entries, entries-insert, len, len-insert}
pub use Rattle.std.specs.FinMap.Entries.{below_all, is_sorted}
pub use Rattle.std.specs.List.{sum_by, slice_get, AllByRecursion, list_any}
pub use Rattle.std.specs.List.Sorted.{IsStrictlySortedBy}
pub use Rattle.std.specs.Map.{keys_of}
pub use Rattle.std.specs.Ordering.{nat_cmp, eq_by_cmp, is_lt, is_eq}
pub use Rattle.std.specs.Slice.Iter.{iter_rest}
pub use Rattle.std.specs.declared.cmp.Ordering.{Ordering}
pub use Rattle.std.specs.declared.cmp.Ordering.TheVariants.{Less, Equal, Greater}
pub use Rattle.books_model.specs.Books.{ClearingBooks, used, position_cmp, put_cash, HaveSameSizes, cash_of, price_of, put_price, put_quantity, position_of}
pub use Rattle.books_model.specs.Books.{put_call}
pub use Rattle.books_model.specs.Inner.Changes.{changed_books, changed, set_at, KnowBefore, before_between, now_between, HasRoomFor, IsRoomier}
pub use Rattle.books_model.specs.Inner.Draft.{set_account, set_position, set_price}
pub use Rattle.books_model.specs.Inner.Steps.{step_with}
pub use Rattle.books_model.specs.Interpreter.{run_parts, step_of, run_from, after_values, run_part, holds_any, is_full, Declines, FindsNoBlock, Gives, Step}
pub use Rattle.books_model.specs.Interpreter.{after_step, cash_between, is_account, put_position, Ends, Run, Stops, after_value, margin_of, next_of}
pub use Rattle.books_model.specs.Interpreter.{outcome_from, shortfall_of, then_run, worth_of}
pub use Rattle.books_model.specs.Laws.{queued_by, taken_by}
pub use Rattle.books_model.specs.Ranges.{AreInRange, IsOperationFor, IsWithin, IsAccountNumber, IsCall, IsInstrumentOf}
pub use Rattle.books_model.specs.Scripts.{operations_in, operations_of}
pub use Rattle.books_model.specs.contracts.books.Books.{the_view}
pub use Rattle.books_model.specs.declared.limits.TheConstants.{GREATEST_CASH, GREATEST_QUANTITY, GREATEST_PRICE}
pub use Rattle.books_model.specs.declared.overlay.Change.{Change}
pub use Rattle.books_model.specs.declared.reply.Decline.{Decline}
pub use Rattle.books_model.specs.declared.reply.Reply.{Reply}
pub use Rattle.books_model.specs.declared.reply.Value.{Value}
pub use Rattle.books_model.specs.declared.script.Op.{Op}
pub use Rattle.books_model.specs.declared.script.Part.{Part}
