-- What several proofs of this crate import.
pub use Rattle.std.proofs.Common.{sym, ◌∙◌, List, ap, arith, ℕ, ◌≡◌, refl, ◌∷◌, [], ◌++◌, false, subst, true, Bool, ◌<◌, ◌≤◌, ⊎_elim, codes, inl, inr, not, ◌+◌}
pub use Rattle.std.proofs.Common.{◌==◌, ◌≢◌, Option, filter, if◌then◌else◌, length, nat_lt, rules, ◌&&◌, All, append-nil, cond, eq-eqb, get_or, map, min, ◌-◌}
pub use Rattle.std.proofs.Common.{◌⊎◌, Some, lit<, ne_eqb, suc, tests}
pub use Rattle.std.proofs.lemmas.Bool.{cases_lt}
pub use Rattle.std.proofs.lemmas.Bool.Decides.{nat_tests}
pub use Rattle.std.proofs.lemmas.Cmp.{tied_itself}
pub use Rattle.std.proofs.lemmas.Iterator.{YieldsList-from_map, YieldsList-from_slice}
pub use Rattle.std.proofs.lemmas.Iterator.Adapters.{option_map_id}
pub use Rattle.std.proofs.lemmas.Iterator.Consumers.{YieldsList-at, YieldsList-from_filter}
pub use Rattle.std.proofs.lemmas.List.Elements.{All-filter}
pub use Rattle.std.proofs.lemmas.List.Kept.{IsStrictlySortedBy-filter}
pub use Rattle.std.proofs.lemmas.List.Sorted.{ranks_by}
pub use Rattle.std.proofs.lemmas.Result.{err_from_is_err_and}
pub use Rattle.std.specs.Cmp.{IsTotalOrder}
pub use Rattle.std.specs.List.{flat_map}
pub use Rattle.std.specs.List.Sorted.{IsPermutation}
pub use Rattle.std.specs.Option.{unwrap_or}
pub use Rattle.std.specs.Ordering.{eq_by_cmp, is_eq, is_lt, nat_cmp}
pub use Rattle.std.specs.Slice.Iter.{iter_rest}
pub use Rattle.std.specs.String.{string_bytes}
pub use Rattle.std.specs.declared.cmp.Ordering.{Ordering}
pub use Rattle.std.specs.declared.cmp.Ordering.TheVariants.{Less, Equal, Greater}
pub use Rattle.books_report.proofs.Common.{Gives, number}
pub use Rattle.order_text.specs.Input.{BookInput, IsBookInput}
pub use Rattle.order_text.specs.Interpreter.{incoming, with_order}
pub use Rattle.order_text.specs.Language.{order_forms, order_language}
pub use Rattle.order_text.specs.Laws.{BestPricesApart}
pub use Rattle.order_text.specs.Matching.{rest_of, trades_down, after_trades, has_quantity, may_trade, orders_after, partners, serving_cmp, volume, trade_with}
pub use Rattle.order_text.specs.Orders.{OrderBook, by_number, blocks_of, empty_book, is_on, all_but, best_buy, best_sell}
pub use Rattle.order_text.specs.Ranges.{HasRoom, IsOrderScript, IsBlockCount, IsBookOf, IsLimitOrder, IsOrderOp}
pub use Rattle.order_text.specs.Words.{next_trade}
pub use Rattle.order_text.specs.contracts.book.Book.{the_view}
pub use Rattle.order_text.specs.declared.limits.TheConstants.{GREATEST_ORDER}
pub use Rattle.order_text.specs.declared.order.Resting.{Resting}
pub use Rattle.order_text.specs.declared.reply.Trade.{Trade}
pub use Rattle.order_text.specs.declared.script.OrderOp.{OrderOp}
pub use Rattle.script_reader.proofs.Common.{CallerOf}
pub use Rattle.script_reader.proofs.LineFaults.RowFaults.{other_length, word_wrong}
pub use Rattle.script_reader.specs.declared.text.words.TheConstants.{SPACE}
