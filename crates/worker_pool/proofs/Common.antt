-- What several proofs of this crate import.
pub use Rattle.std.proofs.Common.{length, ◌≡◌, arith, ℕ, ap, [], ◌∙◌, sym, ◌∷◌, subst, List, ◌+◌, ◌<◌, refl, ◌++◌, get_or, map, ◌≤◌, All, length-append, suc}
pub use Rattle.std.proofs.Common.{◌==◌, if◌then◌else◌, zero, flat_map, set, Bool, Global, Some, slice_index, Vec, cond, slice_get, true, ◌≢◌, AllPairs}
pub use Rattle.std.proofs.Common.{count_by, false, nat_lt, reverse, zero-add, ◌&&◌, ◌*◌, append-nil, lt_of_not-le, take, ◌%◌, ◌-◌, ◌↔◌}
pub use Rattle.std.proofs.lemmas.Bool.Decides.{nat_tests}
pub use Rattle.std.proofs.lemmas.List.{length-map, get_or_append_left, get_or_push, get_or-map, get_or-set_other, get_or-set_same, length-set, map_push}
pub use Rattle.std.proofs.lemmas.List.{get_or_default}
pub use Rattle.std.proofs.lemmas.List.Concat.{flat_map-cons}
pub use Rattle.std.proofs.lemmas.List.Elements.{All-push, All-nil, All-same, All-append, All-head, All-tail, All-weaker}
pub use Rattle.std.proofs.lemmas.List.Sums.{sum_by-cons, get_or-le-sum_by, sum_by-append, sum_by-set, sum_by_push}
pub use Rattle.std.proofs.lemmas.Option.{slice_get_within, get_or_from_slice_get, same_Some, slice_get-get_or}
pub use Rattle.std.specs.List.{range_with_len}
pub use Rattle.std.specs.Prelude.{sum_by}
pub use Rattle.std.specs.Vec.Iter.{into_iter_items, into_iter_len}
pub use lib.ListN.{get_elem?}
pub use mathlib.Core.List.{map-map}
pub use mathlib.Core.Logic.{dite}
pub use mathlib.Core.Option.{some}
pub use native.Mathlib.Decide.{ℕ_discrete, dec_le}
pub use Rattle.books_model.specs.Laws.{RefusedChangesNothing}
pub use Rattle.books_model.specs.declared.reply.Reply.{Reply}
pub use Rattle.books_report.proofs.Common.{script_at, IsInput, IsPlace, Place, books_after}
pub use Rattle.crossbeam_deque.specs.Handles.{worker_view, Pass, view, IsPassOf, worker_flavor, worker_port, SamePass, SameWorker, worker_deque}
pub use Rattle.crossbeam_deque.specs.declared.handles.Stealer.{Stealer}
pub use Rattle.history_model.proofs.Common.{IsIn}
pub use Rattle.history_model.specs.declared.entry.Entry.{Entry}
pub use Rattle.script_reader.proofs.Common.{ClearingInput, caller_at}
pub use Rattle.script_reader.specs.declared.limits.TheConstants.{MOST_SCRIPTS, MOST_CALLERS}
pub use Rattle.txn_books.proofs.Common.{IsGood, words_of, IsGoodFor, ScriptMeans, Stands}
pub use Rattle.txn_books.specs.declared.shape.BooksShape.{BooksShape}
pub use Rattle.txn_commit.proofs.Common.{IsNext, replay, AreAt, IsRunInOrder, spot_of, GetsEntry}
pub use Rattle.txn_commit.proofs.Orders.Arranged.{AreAllPlaces}
pub use Rattle.values_rule.proofs.Common.{number}
pub use Rattle.word_table.proofs.Common.{DeskView, PassView, ClosedView, fresh_pass}
pub use Rattle.worker_pool.specs.Counting.{times, once_below}
pub use Rattle.worker_pool.specs.Days.{Done, places_of_items, place_of_item, AreCallersWhole}
pub use Rattle.worker_pool.specs.Deques.{deal}
pub use Rattle.worker_pool.specs.Inner.Dealing.{IsNewRow, AreDealtInTurn, AreShown, AreStill, HaveLess, IsFree}
pub use Rattle.worker_pool.specs.Inner.Deals.{IsDealt, put, took}
pub use Rattle.worker_pool.specs.Inner.Ends.{owners_took, owners_dealt, stolen, AreAtEach, HaveMore, AreGuests, HasAll, IsGuest}
pub use Rattle.worker_pool.specs.Inner.Finishing.{rows_stole, IsWholeRow, IsReturning}
pub use Rattle.worker_pool.specs.Inner.Makers.{HasMade, RanScripts, RunsEach, AreMadeBy, IsScriptEntry}
pub use Rattle.worker_pool.specs.Inner.Queues.{IsQueueOf, Stealers, dealt_to, IsDealtOut, had}
pub use Rattle.worker_pool.specs.Inner.Workers.{worker_of, CountedShare, IsDone, IsSeated, counted_number, seat_of, AreAllDone, HaveDoneTheirParts, share_of}
pub use Rattle.worker_pool.specs.declared.client.WorkerClient.{WorkerClient}
pub use Rattle.worker_pool.specs.declared.queue.Queue.{Queue}
pub use Rattle.worker_pool.specs.declared.rule.Deal.{Deal}
pub use Rattle.worker_pool.specs.declared.rule.DealRule.{DealRule}
pub use Rattle.worker_pool.specs.declared.rule.TheConstants.{ALL_PARTS}
pub use Rattle.worker_pool.specs.declared.worker.Share.{Share}
pub use Rattle.worker_pool.specs.declared.worker.Worker.{Worker}
