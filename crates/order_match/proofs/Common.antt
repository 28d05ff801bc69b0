-- What several proofs of this crate import.
pub use Rattle.std.proofs.Common.{arith, ◌≡◌, ◌∙◌, ap, refl, sym, List, ℕ, Some, subst, ◌<◌, ◌∷◌, ◌≤◌, Bool, None, [], true, cond, false, ◌==◌, eq-eqb, inl}
pub use Rattle.std.proofs.Common.{filter, inr, ne_eqb, suc, ◌+◌, Option, map, not, ◌++◌, ◌-◌, ◌≢◌, eqb-true, length, if◌then◌else◌, zero, ◌&&◌, ◌⊎◌, min}
pub use Rattle.std.proofs.Common.{nat_le, slice_get, ◌%◌, ◌*◌, ◌/◌, append-nil, find, nat_lt, replicate, rules, ⊎_elim}
pub use Rattle.std.proofs.lemmas.Bool.{cases_lt}
pub use Rattle.std.proofs.lemmas.Bool.Decides.{nat_tests}
pub use Rattle.std.proofs.lemmas.List.Elements.{All-map}
pub use Rattle.std.proofs.lemmas.List.Sums.{sum_by-cons}
pub use Rattle.std.proofs.lemmas.Option.{same_Some}
pub use Rattle.std.proofs.lemmas.Result.{IfOk-weaker}
pub use Rattle.std.specs.Cmp.{nat_cmp_total, both_ways}
pub use Rattle.std.specs.FinMap.{nat_cmp-IsAntisymmetric}
pub use Rattle.std.specs.List.{range_with_len, sum_by}
pub use Rattle.std.specs.List.Sorted.{IsStrictlySortedBy}
pub use Rattle.std.specs.Option.{option_map, unwrap_or}
pub use Rattle.std.specs.Ordering.{nat_cmp, eq_by_cmp, ordering_then}
pub use Rattle.std.specs.declared.cmp.Ordering.{Ordering}
pub use Rattle.std.specs.declared.cmp.Ordering.TheVariants.{Less, Equal, Greater}
pub use mathlib.Core.Logic.{dite}
pub use native.Mathlib.Decide.{ℕ_discrete}
pub use Rattle.books_model.proofs.Common.{IsWithin}
pub use Rattle.books_model.proofs.Maps.Trees.{len_after_insert}
pub use Rattle.books_report.proofs.Common.{Gives}
pub use Rattle.history_model.proofs.Common.{Trace}
pub use Rattle.order_match.specs.Access.{first_in, with_side, with_last, with_places, entries_in, first_of, best_on, is_used_up, put_answer, put_by}
pub use Rattle.order_match.specs.Access.{quantity_at, without_order}
pub use Rattle.order_match.specs.Layout.{side_at, resting_key, side_of, place_of, sides_of, tree_of, key_at, price_in, chains_of, number_in, words_of, arena_of}
pub use Rattle.order_match.specs.Standing.{Stands, HasParts, held_of, quantities_on, IsGoodFor, HasSomeParts, Held, places_of}
pub use Rattle.order_match.specs.Trading.{after_trade, MatchesOrder, RestsOrder, next_number}
pub use Rattle.order_match.specs.declared.layout.Side.{Side}
pub use Rattle.order_match.specs.declared.layout.TheConstants.{HALF, LAST_AT, BUCKETS_AT, ROOTS_AT}
pub use Rattle.order_match.specs.declared.shape.OrderShape.{OrderShape}
pub use Rattle.order_text.proofs.Apart.{books_kept}
pub use Rattle.order_text.proofs.Common.{OrderBook, IsBookOf, trade_with, all_but, partners, serving_cmp, by_number, after_trades, blocks_of, is_on, with_order}
pub use Rattle.order_text.proofs.Common.{orders_after, rest_of, empty_book}
pub use Rattle.order_text.proofs.Entering.{unique_numbers}
pub use Rattle.order_text.proofs.Members.{Has, of_every, has_filtered, of_one, filtered_has, has_mapped}
pub use Rattle.order_text.proofs.Prices.{on_is}
pub use Rattle.order_text.proofs.Serving.{serving_total, none_tie}
pub use Rattle.order_text.proofs.Sorting.{in_order_has, in_order_sorted, has_in_order, one_sorted}
pub use Rattle.order_text.specs.Matching.{Matched, allows, in_order, match_of}
pub use Rattle.order_text.specs.Orders.{order_at}
pub use Rattle.order_text.specs.Output.{order_store}
pub use Rattle.order_text.specs.Ranges.{IsRestingOrder}
pub use Rattle.order_text.specs.declared.limits.TheConstants.{GREATEST_ORDER}
pub use Rattle.order_text.specs.declared.order.Resting.{Resting}
pub use Rattle.order_text.specs.declared.reply.Trade.{Trade}
pub use Rattle.txn_alloc.proofs.Common.{Entries, goes_then, state_after, each_plain, Blocks, IsOwn, FreeListsHold, IsHead, goes_as}
pub use Rattle.txn_alloc.proofs.Maps.Counting.{times_of}
pub use Rattle.txn_alloc.specs.declared.put.Put.{Put}
pub use Rattle.txn_alloc.specs.declared.put.Put.TheVariants.{Full, New, Old}
pub use Rattle.txn_hash_map.proofs.Common.{ChainsHold}
pub use Rattle.txn_stores.proofs.Common.{KeepsOthers, leads_then, begins_trans}
pub use Rattle.txn_stores.proofs.Maps.{remove_absent}
pub use Rattle.txn_stores.proofs.Turning.{leads_less, looked, looked_stands, turned, turned_stands, leads_some, ok_both, Saw, Turns, look_then, turn_then}
pub use Rattle.txn_stores.proofs.Turning.{Leads, each_seen, leads_cut, leads_put, leads_when}
pub use Rattle.txn_tree_map.proofs.Common.{TreeHolds}
pub use Rattle.txn_tree_map.specs.Firsts.{FindsFirst}
pub use Rattle.txn_words.proofs.Common.{EndsWithWrite}
pub use Rattle.txn_words.specs.Access.{Tells, TellsAndChanges, Changes}
