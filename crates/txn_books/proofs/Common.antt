-- What several proofs of this crate import.
pub use Rattle.std.proofs.Common.{arith, ◌≡◌, ◌∙◌, subst, sym, ap, ℕ, List, length, refl, ◌+◌, None, Some, ◌≤◌, [], ◌<◌, true, false, ◌++◌, ◌∷◌, ◌≢◌, rules}
pub use Rattle.std.proofs.Common.{Bool, Option, ◌-◌, slice_get, not, ◌==◌, drop, length-append, take, get_or, if◌then◌else◌, inl, inr, IsSome, Result, cond}
pub use Rattle.std.proofs.Common.{◌&&◌, ◌*◌, IfSome, is_some, map, suc, All, unwrap_or, Ok, T, append_assoc, nat_lt, zero, ◌%◌, ◌/◌, ◌⊎◌, Err, IfOk, filter}
pub use Rattle.std.proofs.Common.{nat_eq, replicate}
pub use Rattle.std.proofs.lemmas.Bool.Decides.{nat_tests}
pub use Rattle.std.proofs.lemmas.List.{nil_from_length, append-nil, length-map, length-replicate, take_all}
pub use Rattle.std.proofs.lemmas.Map.Lookups.{CmpEqualImpliesEq}
pub use Rattle.std.proofs.lemmas.Map.Views.{tells_apart}
pub use Rattle.std.proofs.lemmas.Option.{same_Some, slice_get-get_or, slice_get_within, get_or_from_slice_get}
pub use Rattle.std.proofs.lemmas.Result.{IfOk-weaker}
pub use Rattle.std.specs.Cmp.{nat_cmp_total, IsTotalOrder, tied_itself}
pub use Rattle.std.specs.FinMap.{nat_cmp-IsAntisymmetric}
pub use Rattle.std.specs.FinMap.Entries.{is_sorted, below_all}
pub use Rattle.std.specs.FinSet.{contains-from_list_nat}
pub use Rattle.std.specs.List.{AllByRecursion, count_by, find, list_any}
pub use Rattle.std.specs.Ordering.{nat_cmp, eq_by_cmp, is_eq, is_lt, ordering_then}
pub use Rattle.std.specs.Slice.Iter.{iter_rest}
pub use Rattle.std.specs.declared.cmp.Ordering.{Ordering}
pub use Rattle.std.specs.declared.cmp.Ordering.TheVariants.{Less, Equal, Greater}
pub use mathlib.Core.Bool.{true≢false}
pub use mathlib.Core.Logic.{dite}
pub use native.Mathlib.Decide.{ℕ_discrete}
pub use Rattle.books_model.proofs.Common.{ClearingBooks, AreInRange, position_cmp, put_call, used, Gives, IsWithin, put_cash, put_quantity, put_price, is_full}
pub use Rattle.books_model.proofs.Common.{put_position, run_from, step_of, IsCall, position_of, Declines, after_values, run_parts, IsAccountNumber}
pub use Rattle.books_model.proofs.Common.{FindsNoBlock, Step, Stops, operations_of}
pub use Rattle.books_model.proofs.Maps.Entries.{All-entries}
pub use Rattle.books_model.proofs.Maps.Keys.{below_first, below_rest, is_lt-nat_cmp, sorted_first, sorted_rest}
pub use Rattle.books_model.proofs.Scripts.Branches.{All-back, All-front}
pub use Rattle.books_model.proofs.Sums.{worth_below}
pub use Rattle.books_model.specs.Books.{empty_books}
pub use Rattle.books_model.specs.Inner.Keys.{exact_positions, positions_total}
pub use Rattle.books_model.specs.Interpreter.{declines_first}
pub use Rattle.books_model.specs.declared.limits.TheConstants.{GREATEST_CASH, GREATEST_QUANTITY, MOST_INSTRUMENTS, GREATEST_PRICE}
pub use Rattle.books_model.specs.declared.reply.Reply.{Reply}
pub use Rattle.books_model.specs.declared.script.Op.{Op}
pub use Rattle.history_model.proofs.Traces.FittingLaws.{each_fresh}
pub use Rattle.history_model.specs.Fitting.{IsGood}
pub use Rattle.txn_alloc.proofs.Apart.{three_among, member_one, out_none, two_among}
pub use Rattle.txn_alloc.proofs.Common.{Part, Inserts, HasList, Finds, IsWrittenByLaying}
pub use Rattle.txn_alloc.proofs.FreeLists.Lists.{one_set}
pub use Rattle.txn_alloc.proofs.Maps.Counting.{times_of}
pub use Rattle.txn_alloc.proofs.Maps.Parts.{free_unused}
pub use Rattle.txn_alloc.proofs.Sets.{out_empty}
pub use Rattle.txn_alloc.specs.Blocks.{times_among}
pub use Rattle.txn_alloc.specs.Laying.{IsAmong}
pub use Rattle.txn_alloc.specs.declared.arena.Arena.{Arena}
pub use Rattle.txn_alloc.specs.declared.put.Put.{Put}
pub use Rattle.txn_alloc.specs.declared.put.Put.TheVariants.{New, Full, Old}
pub use Rattle.txn_books.specs.Access.{lacks_position_room}
pub use Rattle.txn_books.specs.Inner.Building.{IsBuilt, above, AreFree}
pub use Rattle.txn_books.specs.Inner.Reading.{AddsUp, entries_in, with_accounts, with_positions, with_prices, AddsAccounts, AddsCalls, AddsPositions}
pub use Rattle.txn_books.specs.Inner.Reading.{AddsPrices, nothing_yet, is_price_key}
pub use Rattle.txn_books.specs.Inner.Rooms.{had_room}
pub use Rattle.txn_books.specs.Inner.Trading.{side_with, sold}
pub use Rattle.txn_books.specs.Layout.{chained, tree_of, chains_of, arena_of, queue_of, position_key_of, shape_of, words_of, price_key_of}
pub use Rattle.txn_books.specs.Meaning.{ScriptMeans, ScriptOn}
pub use Rattle.txn_books.specs.Operating.{IsOperationIn, MeetsStep, step_of_outcome}
pub use Rattle.txn_books.specs.Standing.{Stands, IsGoodFor, HasParts}
pub use Rattle.txn_books.specs.Statements.{IsInstrument}
pub use Rattle.txn_books.specs.declared.operations.Outcome.{Outcome}
pub use Rattle.txn_books.specs.declared.shape.BooksShape.{BooksShape}
pub use Rattle.txn_books.specs.declared.trading.Side.{Side}
pub use Rattle.txn_hash_map.proofs.Common.{Entries, Blocks, KeepsOthers, chain_part, block_at, ChainsHold, after, Cell, IsOwn, FreeListsHold, IsHead}
pub use Rattle.txn_hash_map.proofs.Common.{HasMapApart, HoldsApart, IsInBlock, fits_begins, Fits, Removes, value_of, length-after, Trace, free_below}
pub use Rattle.txn_hash_map.proofs.Common.{value_first, value_later, held, in_here, HasKeysOnce, HasChain, IsBucket}
pub use Rattle.txn_hash_map.proofs.Stands.{chains_stand}
pub use Rattle.txn_hash_map.specs.declared.map.ChainMap.{ChainMap}
pub use Rattle.txn_ring.proofs.Common.{goes_as, goes_then, LeadsTo, Begins, begins_trans, QueueHolds, state_after, IsEmpty, Pops}
pub use Rattle.txn_ring.proofs.Items.{one_queue, queue_stands}
pub use Rattle.txn_ring.specs.declared.ring.Ring.{Ring}
pub use Rattle.txn_tree_map.proofs.Common.{tree_part, TreeHolds, InEachState, GoesOn, HasMap, begins_refl, insert_other, insert_same, HasKeyIn, Tree, name_of}
pub use Rattle.txn_tree_map.proofs.Common.{Leaf}
pub use Rattle.txn_tree_map.proofs.Maps.{tree_stands}
pub use Rattle.txn_tree_map.specs.Stored.{KeepsBlocks}
pub use Rattle.txn_tree_map.specs.declared.map.TreeMap.{TreeMap}
pub use Rattle.txn_words.proofs.CallLaws.{leads_then}
pub use Rattle.txn_words.proofs.FrameLaws.{only_keeps}
pub use Rattle.txn_words.specs.Access.{ChangesWithRoom, OfModel, Tells, Changes, TellsAndChanges}
pub use Rattle.txn_words.specs.Verdicts.{answer_of, is_kept}
pub use Rattle.txn_words.specs.declared.words.Stop.{Stop}
